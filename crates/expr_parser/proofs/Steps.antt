-- Signs and the lists that they begin: the steps of which every rule is made.
use Rattle.std.proofs.Common.{◌≡◌, ℕ, ◌<◌, Bool, true, false, cond, List, [], ◌∷◌, ◌++◌, length, Some, None, refl, sym, ap, ◌∙◌, append_assoc, rules, arith}
use Rattle.std.proofs.lemmas.List.{length-append}
use denote.Enum.Bare.{same_true, true_same}
use Rattle.agda_grammar.specs.contracts.sign.Kind.{the_type}
use Rattle.agda_grammar.specs.declared.sign.Kind.{Kind}
use Rattle.agda_grammar.specs.declared.sign.Mark.{Mark}
use Rattle.agda_grammar.specs.declared.sign.Sign.{Sign}
use Rattle.agda_grammar.specs.Signs.{Input}
use Rattle.expr_parser.specs.Cursor.{same_kind, is, mark_of, expect}
use Rattle.agda_grammar.specs.Signs.{tok}
use Rattle.parse_laws.specs.Parser.{◌>>=◌, one}
use Rattle.parse_laws.proofs.Good.{Language, Family, Good, Seq, One, one_good, weaken, chain_good}
use Rattle.parse_laws.proofs.Many.{AllOf}

-- f puts these signs in front
pub record Spells (f : Input → Input) (c : Input) : Type 0 where
  pub at : (rest : Input) → f rest ≡ c ++ rest

pub both : {f g : Input → Input} {c d w : Input} → w ≡ c ++ d → Spells f c → Spells g d → Spells (λ r. f (g r)) w
both {f = f} {g = g} {c = c} {d = d} split p q = record { at = λ rest. p.at (g rest) ∙ ap (λ (x : Input). c ++ x) (q.at rest) ∙ sym (append_assoc c d rest) ∙ ap (λ (x : Input). x ++ rest) (sym split) }

pub single : (kind : Kind) (m : Mark) (c : Input) → c ≡ tok kind m ∷ [] → Spells (λ r. tok kind m ∷ r) c
single kind m c e = record { at = λ rest. rw e refl }

pub nothing : (c : Input) → c ≡ [] → Spells (λ r. r) c
nothing c e = record { at = λ rest. rw e refl }

pub in_front : {f : Input → Input} {c : Input} (t : Sign) → Spells f c → Spells (λ r. t ∷ f r) (t ∷ c)
in_front t p = record { at = λ rest. ap (λ (x : Input). t ∷ x) (p.at rest) }

-- what is read is the tree of a derivation, and was taken from its signs
pub record As {D A : Type 0} (f : D → Input → Input) (g : D → A) (x : A) (c : Input) : Type 0 where
  pub derivation : D
  pub gives : x ≡ g derivation
  pub spells : Spells (f derivation) c

pub long_as : {D A : Type 0} (f : D → Input → Input) (g : D → A) → ((d : D) → 0 < length (f d [])) → (x : A) (c : Input) → As f g x c → 0 < length c
long_as f g long x c a = omega (arith, long a.derivation, ap length (a.spells.at []), length-append c [])

-- a list of derivations
pub all_of : {D E A : Type 0} (f : D → Input → Input) (g : D → A) (fs : E → Input → Input) (gs : E → List A) (nil : E) (cons : D → E → E)
    → ((rest : Input) → fs nil rest ≡ rest) → gs nil ≡ []
    → ((d : D) (ds : E) (rest : Input) → fs (cons d ds) rest ≡ f d (fs ds rest)) → ((d : D) (ds : E) → gs (cons d ds) ≡ g d ∷ gs ds)
    → (found xs : List A) (c : Input) → AllOf (λ _. As f g) found xs c → As fs gs xs c
all_of f g fs gs nil cons nf ng cf cg found [] c h = record { derivation = nil; gives = sym ng; spells = record { at = λ rest. nf rest ∙ (nothing c h).at rest } }
all_of f g fs gs nil cons nf ng cf cg found (x ∷ xs) c h =
    let more = all_of f g fs gs nil cons nf ng cf cg (found ++ x ∷ []) xs h.1 h.4 in record {
      derivation = cons h.3.derivation more.derivation;
      gives = (λ i. h.3.gives i ∷ more.gives i) ∙ sym (cg h.3.derivation more.derivation);
      spells = record { at = λ rest. cf h.3.derivation more.derivation rest ∙ (both h.2 h.3.spells more.spells).at rest };
    }

-- ---- one sign

pub same_is : (a b : Kind) → same_kind a b ≡ true → a ≡ b
unfolding same_kind
same_is a b e = same_true the_type (search rules) a b e

pub is_tok : (kind : Kind) (s : Sign) → is kind s ≡ true → s ≡ tok kind s.mark
is_tok kind s e = ap (λ (x : Kind). let u : Sign = record { kind = x; mark = s.mark } in u) (same_is s.kind kind e)

pub same_self : (a : Kind) → same_kind a a ≡ true
unfolding same_kind
same_self a = true_same the_type a a refl

abbrev no_mark : Mark
no_mark = record { place = record { span = record { start = 0; end = 0 }; pos = record { line = 0; col = 0 } }; level = 0 }

abbrev pub Is : Kind → Language Sign Mark
Is kind m c = c ≡ tok kind m ∷ []

marked : (kind : Kind) (s : Sign) (m : Mark) → mark_of kind s ≡ Some m → s ≡ tok kind m
marked kind s m e = go (same_kind s.kind kind) refl e
  where
    go : (b : Bool) → same_kind s.kind kind ≡ b → cond b (Some s.mark) None ≡ Some m → s ≡ tok kind m
    go true q f = let same : s.mark ≡ m = cc in is_tok kind s q ∙ ap (tok kind) same
    go false q f = absurd cc

pub expect_good : (kind : Kind) (s n : ℕ) → Good (Is kind) (λ j. expect kind) s n
unfolding expect
expect_good kind s n = weaken (One (mark_of kind)) (Is kind) (λ j. one (mark_of kind)) s n
    (λ m c o. o.1 ∙ ap (λ (t : Sign). t ∷ []) (marked kind o.0 m o.2))
    (one_good (mark_of kind) (tok kind no_mark) no_mark s n (rw same_self refl))

-- a value put at the end takes no sign
abbrev pub Gives : {A : Type 0} → A → Language Sign A
Gives v y c = (y ≡ v) × (c ≡ [])

-- what is read behind a sign of the kind, which is the first of its derivation
abbrev pub AsBehind : {D A : Type 0} → (D → Input → Input) → (D → A) → Kind → Mark → Language Sign A
AsBehind {D = D} f g kind o y cs = (d : D) × (y ≡ g d) × Spells (f d) (tok kind o ∷ cs)

pub of_parts : {D A : Type 0} (f : D → Input → Input) (g : D → A) (kind : Kind) (y : A) (cs : Input) → Seq (Is kind) (λ o. AsBehind f g kind o) y cs → As f g y cs
of_parts f g kind y cs r = record {
  derivation = r.second.0;
  gives = r.second.1;
  spells = record { at = λ rest. r.second.2.at rest ∙ ap (λ (x : Input). x ++ rest) (sym (r.whole ∙ ap (λ (x : Input). x ++ r.back) r.first)) };
}

-- a sign first: what follows has one sign less
pub after_sign : {B : Type 0} (kind : Kind) (M : Mark → Language Sign B) (q : Mark → Family Sign B) (n : ℕ) → ((m : Mark) → Good (M m) (q m) 0 n) → Good (Seq (Is kind) M) (λ j. expect kind >>= (λ m. q m j)) 1 n
after_sign kind M q n goodq = chain_good (Is kind) M (λ j. expect kind) q 1 0 n (expect_good kind 1 n) goodq (λ m c l. rw l (omega arith))
