-- A clause that is not put to the function before it.
use Rattle.std.proofs.Common.{◌≡◌, Bool, false, cond, Some, None, subst, List, [], ◌∷◌, ◌++◌, sym, ap, ◌∙◌, append_assoc}
use Rattle.source_tree.specs.declared.place.Place.{Place}
use Rattle.source_tree.specs.declared.decl.Signature.{Signature}
use Rattle.source_tree.specs.declared.decl.Clause.{Clause}
use Rattle.source_tree.specs.declared.decl.Decl.{Decl}
use Rattle.source_tree.specs.declared.decl.Decl.TheVariants as d
use Rattle.source_tree.specs.Places.{joined}
use Rattle.agda_grammar.specs.declared.entry.Entry.{Entry}
use Rattle.agda_grammar.specs.declared.entry.Entry.TheVariants as entry
use Rattle.agda_grammar.specs.Groups.{is_of, grouped_from}

pub parted : (done new : List Decl) (p : Place) (s : Signature) (cs : List Clause) (c : Clause) → is_of s.names c ≡ false → new ≡ done ++ d.Function p s cs ∷ []
    → (es : List Entry) → done ++ grouped_from (d.Function p s cs) (entry.Clause c ∷ es) ≡ new ++ grouped_from (d.Clause c) es
parted done new p s cs c other is es =
    subst (λ (b : Bool). done ++ elim (cond b (Some (d.Function (joined p c.place) s (cs ++ c ∷ []))) None) [ None ↦ d.Function p s cs ∷ grouped_from (d.Clause c) es | Some y ↦ grouped_from y es ] ≡ new ++ grouped_from (d.Clause c) es)
    (sym other)
    (sym (append_assoc done (d.Function p s cs ∷ []) (grouped_from (d.Clause c) es)) ∙ ap (λ (y : List Decl). y ++ grouped_from (d.Clause c) es) (sym is))
