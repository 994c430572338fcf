-- Each piece takes a character at least, and what is left is a part of what there was.
use Rattle.std.proofs.Common.{◌≡◌, ℕ, ◌+◌, ◌-◌, ◌<◌, ◌≤◌, Bool, true, false, cond, eqb, List, [], ◌∷◌, ◌++◌, ◌&&◌, not, length, Option, Some, None, Result, Ok, Err, OnOk, refl, sym, ap, ◌∙◌, append_assoc, arith}
use Rattle.std.proofs.lemmas.List.{length-append}
use Rattle.std.proofs.lemmas.Bool.{eqb-true}
use Rattle.el_outside.specs.Place.{Place, Rest, after, next, sees, end_from}
use Rattle.el_outside.proofs.Stands.{end_from-append}
use Rattle.el_outside.specs.Runs.{is_white, past, past_from}
use Rattle.agda_lexer.specs.declared.scan.Class.TheVariants as class
use Rattle.agda_lexer.specs.declared.token.LexKind.{LexKind}
use Rattle.agda_lexer.specs.declared.token.TokenKind.{TokenKind}
use Rattle.agda_lexer.specs.declared.token.TokenKind.TheVariants as kind
use Rattle.agda_lexer.specs.declared.piece.Piece.{Piece}
use Rattle.agda_lexer.specs.Characters.{is_special, is_in}
use Rattle.agda_lexer.specs.Runs.{is_name_kind}
use Rattle.agda_lexer.specs.Pieces.{Reading, close_of, closed, are_close, pragma_close, pragma_of, pragma, comment, brace, run_past, kind_at, name_at, run_of, run, follows_dot, dot, sign_of, piece_at, Reads}
use Rattle.agda_lexer.proofs.Steps.{rest, whole}

-- ---- what is left later

pub record Further (r s : Rest) : Type 0 where
  pub taken : List ℕ
  pub split : r.chars ≡ taken ++ s.chars
  pub place_is : s.place ≡ end_from r.place taken

pub here : (r : Rest) → Further r r
here r = record { taken = []; split = refl; place_is = refl }

pub then : (r s t : Rest) → Further r s → Further s t → Further r t
then r s t f g = record {
  taken = f.taken ++ g.taken;
  split = f.split ∙ ap (λ (x : List ℕ). f.taken ++ x) g.split ∙ sym (append_assoc f.taken g.taken t.chars);
  place_is = g.place_is ∙ ap (λ (p : Place). end_from p g.taken) f.place_is ∙ sym (end_from-append r.place f.taken g.taken);
}

pub step : (c : ℕ) (tail : List ℕ) (at : Place) (s : Rest) → Further (rest tail (after c at)) s → Further (rest (c ∷ tail) at) s
step c tail at s f = record { taken = c ∷ f.taken; split = ap (λ (x : List ℕ). c ∷ x) f.split; place_is = f.place_is }

pub length_le : (r s : Rest) → Further r s → length s.chars ≤ length r.chars
length_le r s f = omega (arith, ap length f.split, length-append f.taken s.chars)

-- ---- an answer that leads there

abbrev To : Rest → Option Rest → Type 0
To r None = Unit {0}
To r (Some s) = Further r s

to_if : (r : Rest) (b : Bool) (x y : Option Rest) → To r x → To r y → To r (cond b x y)
to_if r true x y p q = p
to_if r false x y p q = q

to_step : (c : ℕ) (tail : List ℕ) (at : Place) (x : Option Rest) → To (rest tail (after c at)) x → To (rest (c ∷ tail) at) x
to_step c tail at None t = tt
to_step c tail at (Some s) f = step c tail at s f

abbrev Leads : Rest → Reading → Type 0
Leads r (Ok x) = Further r x.1
Leads r (Err e) = Unit {0}

leads_if : (r : Rest) (b : Bool) (x y : Reading) → (b ≡ true → Leads r x) → (b ≡ false → Leads r y) → Leads r (cond b x y)
leads_if r true x y p q = p refl
leads_if r false x y p q = q refl

leads_then : (r s : Rest) (x : Reading) → Further r s → Leads s x → Leads r x
leads_then r s (Ok x) f g = then r s x.1 f g
leads_then r s (Err e) f g = tt

-- ---- each part of the table

pub next_goes : (r : Rest) → Further r (next r)
next_goes r = elim r.chars as (λ l. Further (rest l r.place) (next (rest l r.place))) [ [] ↦ here (rest [] r.place) | c ∷ cs ↦ step c cs r.place _ (here (rest cs (after c r.place))) ]

past_from_goes : (p : ℕ → Bool) (at : Place) (cs : List ℕ) → Further (rest cs at) (past_from p at cs)
past_from_goes p at [] = here (rest [] at)
past_from_goes p at (c ∷ cs) =
    elim (p c) as (λ b. Further (rest (c ∷ cs) at) (cond b (past_from p (after c at) cs) (rest (c ∷ cs) at)))
    [ true ↦ step c cs at _ (past_from_goes p (after c at) cs) | false ↦ here (rest (c ∷ cs) at) ]

past_goes : (p : ℕ → Bool) (r : Rest) → Further r (past p r)
past_goes p r = past_from_goes p r.place r.chars

close_goes : (mark depth : ℕ) (at : Place) (cs : List ℕ) → To (rest cs at) (close_of mark depth at cs)
close_goes mark depth at [] = tt
close_goes mark depth at (c ∷ []) = tt
close_goes mark depth at (c ∷ d ∷ cs) =
    let at' = after d (after c at) in
    let two = λ (x : Option Rest) (t : To (rest cs at') x). to_step c (d ∷ cs) at x (to_step d cs (after c at) x t) in
    to_if _ (eqb c 123 && eqb d mark) _ _ (two _ (close_goes mark (depth + 1) at' cs))
    (to_if _ (eqb c mark && eqb d 125) _ _
    (to_if _ (eqb depth 0) _ _ (two (Some (rest cs at')) (here (rest cs at'))) (two _ (close_goes mark (depth - 1) at' cs)))
    (to_step c (d ∷ cs) at _ (close_goes mark depth (after c at) (d ∷ cs))))

closed_leads : (r : Rest) (e : LexKind) (p : Piece) (o : Option Rest) → To r o → Leads r (closed e p o)
closed_leads r e p None t = tt
closed_leads r e p (Some s) f = f

pragma_close_goes : (at : Place) (cs : List ℕ) → To (rest cs at) (pragma_close at cs)
pragma_close_goes at [] = tt
pragma_close_goes at (c ∷ []) = tt
pragma_close_goes at (c ∷ d ∷ []) = tt
pragma_close_goes at (c ∷ d ∷ e ∷ cs) =
    let at' = after e (after d (after c at)) in
    to_if _ (are_close c d e) _ _
    (step c (d ∷ e ∷ cs) at _ (step d (e ∷ cs) (after c at) _ (step e cs (after d (after c at)) _ (here (rest cs at')))))
    (to_step c (d ∷ e ∷ cs) at _ (pragma_close_goes (after c at) (d ∷ e ∷ cs)))

pragma_of_leads : (r : Rest) (known : Bool) (o : Option Rest) → To r o → Leads r (pragma_of known o)
pragma_of_leads r known None t = tt
pragma_of_leads r true (Some s) f = f
pragma_of_leads r false (Some s) f = tt

pragma_leads : (r : Rest) → Leads r (pragma r)
unfolding pragma
pragma_leads r = pragma_of_leads r _ _ (pragma_close_goes r.place r.chars)

nested_leads : (mark : ℕ) (e : LexKind) (p : Piece) (r : Rest) → Leads r (closed e p (close_of mark 0 r.place r.chars))
nested_leads mark e p r = closed_leads r e p _ (close_goes mark 0 r.place r.chars)

comment_leads : (r : Rest) → Leads r (comment r)
comment_leads r = leads_if r (sees 35 r.chars) _ _ (λ _. leads_then r (next r) _ (next_goes r) (pragma_leads (next r))) (λ _. nested_leads 45 _ _ r)

brace_leads : (r : Rest) → Leads r (brace r)
unfolding brace
brace_leads r =
    leads_if r (sees 45 r.chars) _ _ (λ _. leads_then r (next r) _ (next_goes r) (comment_leads (next r)))
    (λ _. leads_if r (sees 33 r.chars) _ _ (λ _. leads_then r (next r) _ (next_goes r) (nested_leads 33 _ _ (next r))) (λ _. here r))

run_past_goes : (r : Rest) → Further r (run_past r)
run_past_goes r = elim (sees 92 r.chars) as (λ b. Further r (cond b (next r) (past (is_in class.Run) r))) [ true ↦ next_goes r | false ↦ past_goes (is_in class.Run) r ]

name_goes : (r : Rest) → Further r (name_at r).1
name_goes r =
    elim (sees 46 r.chars && is_name_kind (kind_at (next r))) as (λ b. Further r (let x : TokenKind × Rest = cond b (kind.Qualified, run_past (next r)) (kind.Name, r) in x).1)
    [ true ↦ then r (next r) _ (next_goes r) (run_past_goes (next r)) | false ↦ here r ]

run_of_leads : (r : Rest) (k : Result TokenKind LexKind) → Leads r (run_of r k)
run_of_leads r (Err e) = tt
run_of_leads r (Ok kind.Name) = name_goes r
run_of_leads r (Ok kind.Qualified) = here r
run_of_leads r (Ok (kind.Keyword w)) = here r
run_of_leads r (Ok (kind.Symbol s)) = here r
run_of_leads r (Ok (kind.SetLevel l)) = here r
run_of_leads r (Ok kind.Hole) = here r
run_of_leads r (Ok kind.Underscore) = here r

dot_leads : (joined : Bool) (r : Rest) → Leads r (dot joined r)
dot_leads joined r = leads_if r (not joined && follows_dot r.chars) _ _ (λ _. here r) (λ _. tt)

sign_leads : (r : Rest) (o : Option TokenKind) → Leads r (sign_of r o)
sign_leads r None = tt
sign_leads r (Some k) = here r

left_true : (a b : Bool) → (a && b) ≡ true → a ≡ true
left_true true b e = refl
left_true false b e = e

dash_goes : (c : ℕ) (at : Place) (tail : List ℕ) → eqb c 45 ≡ true → Further (rest tail (after c at)) (past (is_in class.Line) (rest (c ∷ tail) at))
dash_goes c at tail e = rw (eqb-true c 45 e) (past_from_goes (is_in class.Line) (after 45 at) tail)

-- a run takes its first character
run_past_takes : (c : ℕ) (at : Place) (tail : List ℕ) → is_white c ≡ false → is_special c ≡ false → Further (rest tail (after c at)) (run_past (rest (c ∷ tail) at))
run_past_takes c at tail no_white no_special =
    let holds : is_in class.Run c ≡ true = rw (no_white, no_special) refl in
    elim (eqb c 92) as (λ b. Further (rest tail (after c at)) (cond b (rest tail (after c at)) (past (is_in class.Run) (rest (c ∷ tail) at))))
    [ true ↦ here (rest tail (after c at)) | false ↦ rw holds (past_from_goes (is_in class.Run) (after c at) tail) ]

run_leads : (c : ℕ) (at : Place) (tail : List ℕ) → is_white c ≡ false → is_special c ≡ false → Leads (rest tail (after c at)) (run (rest (c ∷ tail) at))
unfolding run
run_leads c at tail no_white no_special = leads_then _ _ _ (run_past_takes c at tail no_white no_special) (run_of_leads (run_past (rest (c ∷ tail) at)) (kind_at (rest (c ∷ tail) at)))

piece_leads : (joined : Bool) (c : ℕ) (at : Place) (tail : List ℕ) → Leads (rest tail (after c at)) (piece_at joined c (rest (c ∷ tail) at))
unfolding piece_at
piece_leads joined c at tail =
    let r = rest tail (after c at) in
    leads_if r (is_white c) _ _ (λ _. here r) (λ no_white.
    leads_if r (eqb c 123) _ _ (λ _. brace_leads r) (λ _.
    leads_if r (eqb c 45 && sees 45 tail) _ _ (λ is_dash. dash_goes c at tail (left_true _ _ is_dash)) (λ _.
    leads_if r (eqb c 46) _ _ (λ _. dot_leads joined r) (λ _.
    leads_if r (is_special c) _ _ (λ _. sign_leads _ _) (λ no_special. run_leads c at tail no_white no_special)))))

pub piece_goes : (joined : Bool) (r s : Rest) (c : ℕ) (tail : List ℕ) (p : Piece) → r.chars ≡ c ∷ tail → piece_at joined c r ≡ Ok (p, s) → Further (rest tail (after c r.place)) s
piece_goes joined r s c tail p one is =
    let w : Leads (rest tail (after c r.place)) (piece_at joined c r) = rw (whole r (c ∷ tail) one) (piece_leads joined c r.place tail) in
    rw is at w

pub takes : (joined : Bool) (r s : Rest) (c : ℕ) (tail : List ℕ) (p : Piece) → r.chars ≡ c ∷ tail → piece_at joined c r ≡ Ok (p, s) → length s.chars + 1 ≤ length r.chars
takes joined r s c tail p one is = omega (arith, length_le _ _ (piece_goes joined r s c tail p one is), ap length one)

pub moves : (joined : Bool) (r new : Rest) (c : ℕ) (tail : List ℕ) (result : Result Piece LexKind) → r.chars ≡ c ∷ tail → Reads (piece_at joined c r) result new → OnOk result (length new.chars < length r.chars)
moves joined r new c tail (Ok p) one is = omega (arith, takes joined r new c tail p one is)
moves joined r new c tail (Err e) one is = tt
