use Rattle.java_print.proofs.Adding.{both_put, on_ok}
use Rattle.java_print.proofs.DeclAdding.{mods_as, params_as}
use Rattle.java_print.proofs.decls.put_head.Goals as goal

pub returns : goal.returns
returns c = record {
  value = on_ok c.put_params.result c.put_params.ensures.value
      (λ h. both_put (both_put (mods_as _ _ c.as_slice.ensures.value c.in_ok-put_mods.ensures.value) (both_put c.in_ok-put_result.ensures.value
      (both_put c.in_ok-put_space.ensures.value (both_put c.in_ok-put_name.ensures.value c.in_ok-put_mark.ensures.value))))
      (params_as _ _ c.as_slice-2.ensures.value h));
}
