-- The end of a spine.
use Rattle.std.proofs.Common.{◌≡◌, false, refl, sym, subst}
use Rattle.std.specs.Prelude.{[], ◌∷◌}
use Rattle.core_rules.specs.declared.Flag.TheVariants.{Explicit, Implicit}
use Rattle.core_rules.specs.Term.{Term, Var, Sort, Pi, Lam, App, Def, Fam, Con, Proj, Meta}
use Rattle.core_rules.specs.Heads.{Answer, Form, Blocked}
use Rattle.kernel_rules.specs.Outcome.{Outcome, Gives, Refuses}
use Rattle.term_pool.specs.Pool.{Pool}
use Rattle.el_outside.specs.declared.place.Pos.{Pos}
use Rattle.written_rules.specs.Refusals.{Refusal}
use Rattle.written_rules.specs.Asking.{Reads, Is, ◌>>=◌, gives}
use Rattle.written_rules.specs.Rules.{Found, shows, uninserted, agrees, against}
use Rattle.elab_machine.specs.declared.error.WrittenError.{WrittenError}
use Rattle.elab_machine.specs.Answers.{RefusedBy}
use Rattle.elab_machine.specs.Writer.{Over, Read, inserts}
use Rattle.elab_machine.proofs.Reading.{read-next, refused-weaker, refused-first}

pub uninserted-no : (q : Pos) (w : Answer) → inserts w ≡ false → uninserted q w ≡ Gives w
uninserted-no q (Form (Pi Implicit x a b) []) e = absurd cc
uninserted-no q (Form (Pi Implicit x a b) (d ∷ es)) e = refl
uninserted-no q (Form (Pi Explicit x a b) es) e = refl
uninserted-no q (Form (Var i) es) e = refl
uninserted-no q (Form (Sort n) es) e = refl
uninserted-no q (Form (Lam b x a t) es) e = refl
uninserted-no q (Form (App b t u) es) e = refl
uninserted-no q (Form (Def f) es) e = refl
uninserted-no q (Form (Fam d) es) e = refl
uninserted-no q (Form (Con k ps) es) e = refl
uninserted-no q (Form (Proj f t) es) e = refl
uninserted-no q (Form (Meta m ts) es) e = refl
uninserted-no q (Blocked m h es) e = refl

module _ (o : Over) (p q : Pos) (b : Term) (s : Found) (w : Answer) (h : Read o (shows p s.ty) (Gives w)) (n : inserts w ≡ false) where
  abbrev rest : Answer → Reads Term
  rest v = agrees p s.ty b >>= (λ (o : Unit {0}). gives s.term)

  pub against-after : (r : Outcome Refusal Term) → Read o (agrees p s.ty b >>= (λ (o : Unit {0}). gives s.term)) r → Read o (against p q b s) r
  against-after r k = read-next o (shows p s.ty) (λ w. Is (uninserted q w) >>= rest) w r h (subst (λ (z : Outcome Refusal Answer). Read o (Is z >>= rest) r) (sym (uninserted-no q w n)) k)

  pub against-refused : (pool : Pool) (e : WrittenError) → RefusedBy pool (λ r. Read o (agrees p s.ty b) (Refuses r)) e → RefusedBy pool (λ r. Read o (against p q b s) (Refuses r)) e
  against-refused pool e k =
      refused-weaker pool (λ r. Read o (agrees p s.ty b >>= (λ (o : Unit {0}). gives s.term)) (Refuses r)) (λ r. Read o (against p q b s) (Refuses r)) (λ r j. against-after (Refuses r) j) e
      (refused-first o (agrees p s.ty b) (λ (o : Unit {0}). gives s.term) pool e k)
