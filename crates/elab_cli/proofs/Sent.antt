-- What has gone out after some calls of `put`.
use Rattle.std.proofs.Common.{◌≡◌, ◌≢◌, ℕ, List, [], ◌++◌, take, drop, None, Some, ap, sym, ◌∙◌, append_assoc, refl}
use Rattle.std.specs.declared.option.Option.{Option}
use Rattle.std.proofs.lemmas.List.{take-append-drop, append-nil}
use Rattle.std.specs.Io.KnownBytes.{Appends, Keeps}
use Rattle.elab_cli.specs.Transcript.{AppendsPart}

-- of the whole these bytes went out, and the rest is to go out
pub record Sent (old new : Option (List ℕ)) (rest whole : List ℕ) : Type 0 where
  pub sent : List ℕ
  pub parts : sent ++ rest ≡ whole
  pub appends : Appends old new sent

Appends-append : (a b c : Option (List ℕ)) (xs ys : List ℕ) → Appends a b xs → Appends b c ys → Appends a c (xs ++ ys)
Appends-append None b c xs ys p q = tt
Appends-append (Some a) None c xs ys p q = absurd p
Appends-append (Some a) (Some b) None xs ys p q = absurd q
Appends-append (Some a) (Some b) (Some c) xs ys p q = q ∙ ap (λ (l : List ℕ). l ++ ys) p ∙ append_assoc a xs ys

Appends-keep : (a b c : Option (List ℕ)) (xs : List ℕ) → Appends a b xs → Keeps b c → Appends a c xs
Appends-keep None b c xs p q = tt
Appends-keep (Some a) None c xs p q = absurd p
Appends-keep (Some a) (Some b) None xs p q = absurd q
Appends-keep (Some a) (Some b) (Some c) xs p q = q ∙ p

pub Appends-nothing : (a : Option (List ℕ)) → Appends a a []
Appends-nothing None = tt
Appends-nothing (Some a) = sym (append-nil a)

pub nothing_sent : (a : Option (List ℕ)) (whole : List ℕ) → Sent a a whole whole
nothing_sent a whole = record { sent = []; parts = refl; appends = Appends-nothing a }

pub more_sent : (a b c : Option (List ℕ)) (rest whole after : List ℕ) (n : ℕ) → Sent a b rest whole → Appends b c (take n rest) → after ≡ drop n rest → Sent a c after whole
more_sent a b c rest whole after n s q is = record {
  sent = s.sent ++ take n rest;
  parts = append_assoc s.sent (take n rest) after ∙ ap (λ (l : List ℕ). s.sent ++ l) (ap (λ (l : List ℕ). take n rest ++ l) is ∙ take-append-drop n rest) ∙ s.parts;
  appends = Appends-append a b c s.sent (take n rest) s.appends q;
}

pub all_sent : (a b : Option (List ℕ)) (rest whole : List ℕ) → Sent a b rest whole → rest ≡ [] → Appends a b whole
all_sent a b rest whole s e =
    let is : s.sent ≡ whole = sym (append-nil s.sent) ∙ ap (λ (l : List ℕ). s.sent ++ l) (sym e) ∙ s.parts in
    rw (← is) s.appends

pub part_sent : (a b c : Option (List ℕ)) (rest whole : List ℕ) → Sent a b rest whole → Keeps b c → rest ≢ [] → AppendsPart a c whole
part_sent a b c rest whole s q some = record {
  sent = s.sent;
  rest = rest;
  parts = s.parts;
  short = some;
  appends = Appends-keep a b c s.sent s.appends q;
}
