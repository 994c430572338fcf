use Rattle.std.proofs.Common.{◌≡◌, ◌∷◌, [], ◌++◌, List, ℕ, ap, sym, ◌∙◌, append_assoc, map, take, subst, slice_get, Some}
use Rattle.core_rules.specs.Signature.{defs, decl_name}
use Rattle.core_terms.specs.Signature.{entry_decl}
use Rattle.core_print.proofs.Viewing.{defs-next, entry_name}
use Rattle.core_print.proofs.globals.push_defs.Goals as goal

pub loop-def-preserved : goal.loop-def-preserved
loop-def-preserved c =
    let ds = defs c.args.sig.now in
    let i = c.loop-def.def in
    let e = c.def.result.now in
    let at : slice_get ds i ≡ Some (entry_decl e) = subst (λ (n : ℕ). slice_get ds n ≡ Some (entry_decl e)) c.new.ensures c.def.ensures in
    c.in_ok-push.ensures.items ∙ (ap (λ (xs : List ℕ). xs ++ e.name ∷ []) c.loop-def.invariant
    ∙ (append_assoc c.args.names.now.items (map decl_name (take i ds)) (e.name ∷ [])
    ∙ ap (λ (xs : List ℕ). c.args.names.now.items ++ xs) (sym (defs-next ds i (entry_decl e) at ∙ ap (λ (x : ℕ). map decl_name (take i ds) ++ x ∷ []) (entry_name e)))))
