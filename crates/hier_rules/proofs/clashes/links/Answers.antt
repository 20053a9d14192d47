use Rattle.std.proofs.Common.{◌∙◌, ap, sym, Some, cond}
use Rattle.std.specs.Str.{bytes_eq, encode_utf8_all}
use Rattle.indexmap.specs.IndexMap.{get_by_text}
use Rattle.hier_model.specs.Hierarchies.{member_name}
use Rattle.hier_rules.specs.Namesakes.{last_of}
use Rattle.hier_rules.proofs.ClashLemmas.{last_next, link_more}
use Rattle.hier_rules.proofs.clashes.links.Goals as goal

pub loop-c-preserved : goal.loop-c-preserved
loop-c-preserved c =
    let H = c.args.asked.now.hier.now in
    let k = c.loop-c.c in
    record {
      links =
          link_more H k c.loop-c.links.items c.push.new.self.items c.in_ok-before.before c.in_ok-push.ensures.items c.loop-c.invariant.links
          (c.in_ok-before.ensures.old ∙ c.loop-c.invariant.last c.member_name.result.now ∙ ap (λ x. last_of H x k) c.member_name.ensures);
      last = λ x.
          c.in_ok-before.ensures.put x
          ∙ ap (λ y. cond (bytes_eq y x) (Some k) (get_by_text c.loop-c.last (encode_utf8_all x))) c.member_name.ensures
          ∙ ap (λ o. cond (bytes_eq (member_name H k) x) (Some k) o) (c.loop-c.invariant.last x) ∙ sym (last_next H x k);
    }
