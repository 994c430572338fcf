-- How patterns are aligned, by how they are written.
use Rattle.std.proofs.Common.{◌≡◌, ℕ, List, ◌∷◌, refl, ap, ◌∙◌}
use Rattle.std.specs.Prelude.{Bool, true, false, cond, eqb}
use Rattle.core_rules.specs.declared.Flag.{Flag}
use Rattle.core_rules.specs.declared.Flag.TheVariants.{Explicit, Implicit}
use Rattle.core_rules.specs.Term.{Term}
use Rattle.core_rules.specs.Signature.{Entry, Telescope, Signature}
use Rattle.kernel_rules.specs.Outcome.{Outcome, Refuses}
use Rattle.need_rules.specs.Needs.{Next}
use Rattle.need_rules.specs.Needs as needs
use Rattle.el_outside.specs.declared.place.Pos.{Pos}
use Rattle.lhs_rules.specs.Refusals.{Refusal, at, WrongArity, NoSuchName}
use Rattle.lhs_rules.specs.Rules.{PatternMeaning, ElimMeaning, Slot, aligned, misfit, slots_by, binder_need, with_slot, written_slot, unwritten_slot, braces_of}
use Rattle.lhs_rules.specs.Patterns.{inside}
use Rattle.lhs_elab.specs.declared.due.Written.TheVariants as W
use Rattle.lhs_elab.specs.declared.due.Due.{Due}
use Rattle.lhs_elab.specs.declared.due.Due.TheVariants as D
use Rattle.lhs_elab.specs.Dues.{written_of, due_of}

-- ---- what is refused

pub misfit-plain : {E : Type 0} (p q : Pos) (n : Next E) → W.Plain ≡ written_of n → misfit p q n ≡ at p WrongArity
misfit-plain p q (needs.Plain e) h = refl
misfit-plain p q (needs.Braces e) h = absurd (cc h)
misfit-plain p q (needs.Named x e) h = absurd (cc h)
misfit-plain p q (needs.Field k) h = absurd (cc h)

pub misfit-project : {E : Type 0} (p q : Pos) (n : Next E) → W.Project ≡ written_of n → misfit p q n ≡ at p WrongArity
misfit-project p q (needs.Plain e) h = absurd (cc h)
misfit-project p q (needs.Braces e) h = absurd (cc h)
misfit-project p q (needs.Named x e) h = absurd (cc h)
misfit-project p q (needs.Field k) h = refl

pub misfit-braces : {E : Type 0} (p q : Pos) (n : Next E) → W.Braces ≡ written_of n → misfit p q n ≡ at q NoSuchName
misfit-braces p q (needs.Plain e) h = absurd (cc h)
misfit-braces p q (needs.Braces e) h = refl
misfit-braces p q (needs.Named x e) h = absurd (cc h)
misfit-braces p q (needs.Field k) h = absurd (cc h)

pub misfit-named : {E : Type 0} (p q : Pos) (n : Next E) (y : ℕ) → W.Named y ≡ written_of n → misfit p q n ≡ at q NoSuchName
misfit-named p q (needs.Plain e) y h = absurd (cc h)
misfit-named p q (needs.Braces e) y h = absurd (cc h)
misfit-named p q (needs.Named x e) y h = refl
misfit-named p q (needs.Field k) y h = absurd (cc h)

-- ---- what is taken

abbrev by_due : Pos → ElimMeaning → Outcome Refusal (List Slot) → Outcome Refusal (List Slot) → Due → Outcome Refusal (List Slot)
by_due p m taken left D.Takes = with_slot (written_slot (braces_of m.next) (inside m)) taken
by_due p m taken left D.Inserts = with_slot unwritten_slot left
by_due p m taken left D.Refuses = Refuses (misfit p m.pos m.next)

module _ (g : Signature Term) (p q : Pos) (taken left : Outcome Refusal (List Slot)) (x : ℕ) (a : Term) where
  named : (y : ℕ) (w : PatternMeaning) (v : Bool) → slots_by p (record { pos = q; next = needs.Named y w }) taken left (cond v (needs.Given w a a) (needs.Insert a a)) ≡ by_due p (record { pos = q; next = needs.Named y w }) taken left (cond v D.Takes D.Inserts)
  named y w true = refl
  named y w false = refl

  pub slots-due : (b : Flag) (n : Next PatternMeaning)
      → slots_by p (record { pos = q; next = n }) taken left (binder_need g (record { name = x; flag = b; ty = a }) n) ≡ by_due p (record { pos = q; next = n }) taken left (due_of b x (written_of n))
  slots-due Explicit (needs.Plain w) = refl
  slots-due Explicit (needs.Braces w) = refl
  slots-due Explicit (needs.Named y w) = refl
  slots-due Explicit (needs.Field k) = refl
  slots-due Implicit (needs.Plain w) = refl
  slots-due Implicit (needs.Braces w) = refl
  slots-due Implicit (needs.Named y w) = named y w (eqb y x)
  slots-due Implicit (needs.Field k) = refl

-- the first pattern at an argument
pub first-aligned : (g : Signature Term) (p : Pos) (e : Entry Term) (es : Telescope Term) (m : ElimMeaning) (ms : List ElimMeaning)
    → aligned g p (m ∷ ms) (e ∷ es) ≡ by_due p m (aligned g p ms es) (aligned g p (m ∷ ms) es) (due_of e.flag e.name (written_of m.next))
first-aligned g p e es m ms = slots-due g p m.pos (aligned g p ms es) (aligned g p (m ∷ ms) es) e.name e.ty e.flag m.next

pub refused-aligned : (g : Signature Term) (p : Pos) (e : Entry Term) (es : Telescope Term) (m : ElimMeaning) (ms : List ElimMeaning) → due_of e.flag e.name (written_of m.next) ≡ D.Refuses
    → aligned g p (m ∷ ms) (e ∷ es) ≡ Refuses (misfit p m.pos m.next)
refused-aligned g p e es m ms h = first-aligned g p e es m ms ∙ ap (by_due p m (aligned g p ms es) (aligned g p (m ∷ ms) es)) h
