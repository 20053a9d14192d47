-- Along the superclasses from a class to one above it, what is nearest is what stands alone on the way.
use Rattle.std.proofs.Common.{◌≡◌, ◌≢◌, ℕ, Option, Some, None, refl, ap, ◌∙◌}
use Rattle.kaba_base.specs.declared.ClassId.{ClassId}
use Rattle.java_core.specs.Programs.{Plain}
use Rattle.java_core.specs.Classes.{parent_of, IsSubclass, same_class, through, IsProperSubclass}
use Rattle.java_core.specs.Found.{IsNearest, at_class, above_class}
use Rattle.java_core.proofs.Subclasses.{parent-super}
use Rattle.java_core.proofs.Upwards.{IsOnChain, chain_here, chain_up, on_chain}

module _ (P : Plain) (own : ℕ → Option ℕ) where
  -- each class on the way that has one has this one
  abbrev pub OneOnWay : ℕ → ℕ → ℕ → Type 0
  OneOnWay c h d = (e x : ℕ) → IsSubclass P c e → IsSubclass P e h → own e ≡ Some x → x ≡ d

  pub nearest_on_way : {c h d : ℕ} → IsOnChain P c h → own h ≡ Some d → OneOnWay c h d → IsNearest P own c d
  nearest_on_way chain_here found all = at_class found
  nearest_on_way {c} {h} {d} (chain_up {p = p} up rest) found all =
      let direct = parent-super P c p up in
      step (own c) refl (all c) (λ e. above_class e up (nearest_on_way rest found (λ e x a b. all e x (through direct a) b)))
      (through direct (on_chain P rest))
    where
      step : (o : Option ℕ) → own c ≡ o → ((x : ℕ) → IsSubclass P c c → IsSubclass P c h → own c ≡ Some x → x ≡ d)
          → (own c ≡ None → IsNearest P own c d) → IsSubclass P c h → IsNearest P own c d
      step None e here up way = up e
      step (Some x) e here up way = at_class (e ∙ ap Some (here x same_class way e))

  -- what is nearest strictly above a class, which has a superclass then
  pub record IsNearestAbove (c d : ℕ) : Type 0 where
    pub parent : ClassId
    pub above : parent_of P c ≡ Some parent
    pub nearest : IsNearest P own parent.0 d

  pub nearest_strictly : {c h d : ℕ} → IsOnChain P c h → c ≢ h → own h ≡ Some d
      → ((e x : ℕ) → IsProperSubclass P c e → IsSubclass P e h → own e ≡ Some x → x ≡ d) → IsNearestAbove c d
  nearest_strictly chain_here other found all = absurd (other refl)
  nearest_strictly {c} {h} {d} (chain_up {p = p} up rest) other found all = record {
    parent = p;
    above = up;
    nearest = nearest_on_way rest found (λ e x a b. all e x (record { by = p; direct = parent-super P c p up; rest = a }) b);
  }

  -- where a class on the way has one, what is nearest stands at or below it
  pub record IsNearestBelow (c h : ℕ) : Type 0 where
    pub number : ℕ
    pub nearest : IsNearest P own c number
    pub holder : ℕ
    pub found : own holder ≡ Some number
    pub above : IsSubclass P c holder
    pub below : IsSubclass P holder h

  pub nearest_below : {c h d : ℕ} → IsOnChain P c h → own h ≡ Some d → IsNearestBelow c h
  nearest_below {c} {d = d} chain_here found =
      record { number = d; nearest = at_class found; holder = c; found = found; above = same_class; below = same_class }
  nearest_below {c} {h} (chain_up {p = p} up rest) found = step (own c) refl (nearest_below rest found)
    where
      step : (o : Option ℕ) → own c ≡ o → IsNearestBelow p.0 h → IsNearestBelow c h
      step None e n = record {
        number = n.number;
        nearest = above_class e up n.nearest;
        holder = n.holder;
        found = n.found;
        above = through (parent-super P c p up) n.above;
        below = n.below;
      }
      step (Some x) e n = record {
        number = x;
        nearest = at_class e;
        holder = c;
        found = e;
        above = same_class;
        below = through (parent-super P c p up) (on_chain P rest);
      }
