-- The method of a site of the facts is that of the site of the program.
use Rattle.std.proofs.Common.{◌≡◌, ℕ, ◌<◌, List, [], length, get_or, slice_index_or, ap, ◌∙◌, subst}
use Rattle.std.specs.Prelude.{Option, Some, slice_get}
use Rattle.std.specs.Option.{option_map, option_map_or}
use Rattle.std.proofs.lemmas.List.{length-map, get_or-map}
use Rattle.std.proofs.lemmas.Option.{slice_get-map, slice_get-get_or}
use Rattle.java_core.specs.Programs.{Plain}
use Rattle.fact_model.specs.declared.facts.Facts.{Facts}
use Rattle.fact_model.specs.declared.facts.SiteInfo.{SiteInfo}
use Rattle.fact_model.specs.Items.{site_at}
use Rattle.flow_rules.specs.declared.items.Site.{Site}
use Rattle.flow_rules.specs.Numbered.{sites_of}
use Rattle.flow_rules.specs.Facts.{site_info}
use Rattle.write_model.specs.Names.{nowhere}
use Rattle.write_model.specs.Members.{site_member}
use Rattle.write_forms.specs.declared.numbers.Numbering.{Numbering}
use Rattle.write_forms.specs.Sources.{old_program, renaming}
use Rattle.source_gen.specs.declared.parts.Nodes.{Nodes}
use Rattle.source_gen.specs.Made.{info_makes, site_makes}
use Rattle.source_gen.specs.Sources.{AreSites}

-- so many sites as the program has
pub site_count : (P : Plain) (n : Numbering) (F : Facts) → AreSites P n F → length F.sites.items ≡ length (sites_of P)
site_count P n F are = ap length are.infos ∙ length-map (sites_of P) site_info

abbrev no_info : SiteInfo
no_info = record { row = record { 0 = 0 }; class = record { 0 = 0 }; dim = 0 }

-- a site past the last
abbrev pub no_site : Site
no_site = record { number = 0; place = nowhere; ty = record { class = record { 0 = 0 }; dim = 0 }; row = 0 }

pub site_is : (nodes : Nodes) (s : ℕ) → AreSites (old_program nodes.source) nodes.source.numbering.now nodes.facts.now
    → s < length nodes.facts.now.sites.items → site_makes nodes s
    ≡ site_member (old_program nodes.source) (renaming nodes.source) nodes.source.hier.now s (get_or (sites_of (old_program nodes.source)) s no_site)
site_is nodes s are below =
    let zs = sites_of (old_program nodes.source) in
    let z = get_or zs s no_site in
    let lt : s < length zs = subst (λ k. s < k) (site_count (old_program nodes.source) nodes.source.numbering.now nodes.facts.now are) below in
    let number : slice_get nodes.source.numbering.now.sites.keys s ≡ Some z.number =
    ap (λ (l : List ℕ). slice_get l s) are.numbers ∙ slice_get-map (λ (y : Site). y.number) zs s
    ∙ ap (option_map (λ (y : Site). y.number)) (slice_get-get_or zs s no_site lt) in
    let info : site_at nodes.facts.now s ≡ site_info z =
    ap (λ (l : List SiteInfo). slice_index_or l s no_info) are.infos ∙ get_or-map site_info zs s no_site no_info lt in
    ap (λ (o : Option ℕ). option_map_or (info_makes nodes.source (site_at nodes.facts.now s)) o []) number
    ∙ ap (λ (i : SiteInfo). info_makes nodes.source i z.number) info
