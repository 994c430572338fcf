-- The place and the name of an expression, by its form.
use Rattle.std.proofs.Common.{◌≡◌, refl, sym, subst}
use Rattle.std.specs.Prelude.{List, Option, Some, None}
use Rattle.core_rules.specs.Term.{Term}
use Rattle.core_rules.specs.Signature.{Signature}
use Rattle.el_outside.specs.declared.place.Pos.{Pos}
use Rattle.written_rules.specs.Rules.{Name, ArgMeaning}
use Rattle.written_rules.specs.Expressions.{ExprMeaning, an_application}
use Rattle.elab_machine.specs.declared.names.Seen as S
use Rattle.elab_machine.specs.Spine.{IsSeen, no_name_at}

pub seen_as : {m k : ExprMeaning} {s : S.Seen} → m ≡ k → IsSeen k s → IsSeen m s
seen_as {s = s} e h = subst (λ (n : ExprMeaning). IsSeen n s) (sym e) h

pub application_seen : (g : Signature Term) (p q : Pos) (x : Option Name) (xs : List ArgMeaning) → IsSeen (an_application g p q x xs) (no_name_at p)
application_seen g p q None xs = record { pos = refl; name = refl }
application_seen g p q (Some x) xs = record { pos = refl; name = refl }
