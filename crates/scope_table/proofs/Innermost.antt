-- The innermost variable of each text, as it is kept beside the variables.
use Rattle.std.proofs.Common.{◌≡◌, ◌<◌, ◌≤◌, ◌^◌, ℕ, zero, suc, ◌+◌, ◌-◌, Bool, true, false, cond, eqb, List, [], ◌∷◌, ◌++◌, map, reverse, drop, set, length, get_or, Option, Some, None, if◌then◌else◌, refl, sym, ap, ◌∙◌, arith}
use Rattle.std.specs.Option.{unwrap_or}
use Rattle.std.specs.List.{position_from}
use Rattle.std.specs.Str.{bytes_eq}
use Rattle.std.proofs.lemmas.Slice.Eq.{bytes_eq-Decides}
use Rattle.std.proofs.lemmas.Bool.{eqb-true, eqb-false, eq-eqb}
use Rattle.std.proofs.lemmas.Bool.Decides.{same_from_decides}
use Rattle.std.proofs.lemmas.List.{get_or-set_same, get_or-set_other, get_or_append_left, length-set, length-reverse, length_push, append-nil}
use Rattle.el_base.proofs.Lists.{reverse_push}
use Rattle.scope_table.specs.declared.locals.Variable.{Variable}
use Rattle.scope_table.specs.Known.{place_of, with_text}
use Rattle.scope_table.specs.Innermost.{text_of, depth_of, Hide, Kept}

-- ---- the place of a text

record At (x : List ℕ) (i k : ℕ) (texts : List (List ℕ)) : Type 0 where
  pub from : i ≤ k
  pub within : k < i + length texts
  pub is : get_or texts (k - i) [] ≡ x

at_from : (x : List ℕ) (i k : ℕ) (texts : List (List ℕ)) → position_from (bytes_eq x) i texts ≡ Some k → At x i k texts
at_from x i k [] e = absurd cc
at_from x i k (y ∷ ys) e = of (bytes_eq x y) refl e (at_from x (i + 1) k ys)
  where
    of : (b : Bool) → bytes_eq x y ≡ b → cond b (Some i) (position_from (bytes_eq x) (i + 1) ys) ≡ Some k
        → (position_from (bytes_eq x) (i + 1) ys ≡ Some k → At x (i + 1) k ys) → At x i k (y ∷ ys)
    of true here e rest =
        let n : i ≡ k = cc in
        let z : k - i ≡ 0 = omega arith in
        record { from = omega arith; within = omega arith; is = rw z (sym ((bytes_eq-Decides x y).0 here)) }
    of false here e rest =
        let a : At x (i + 1) k ys = rest e in
        let z : k - i ≡ suc (k - (i + 1)) = omega arith in
        record { from = omega arith; within = omega arith; is = rw z a.is }

text_at : (texts : List (List ℕ)) (x : List ℕ) (k : ℕ) → place_of texts x ≡ Some k → get_or texts k [] ≡ x
text_at texts x k e =
    let n : k - 0 ≡ k = omega arith in
    ap (λ (j : ℕ). get_or texts j []) (sym n) ∙ (at_from x 0 k texts e).is

pub place_within : (texts : List (List ℕ)) (x : List ℕ) (k : ℕ) → place_of texts x ≡ Some k → k < length texts
place_within texts x k e = omega (arith, (at_from x 0 k texts e).within)

position_append : (t : List ℕ → Bool) (i k : ℕ) (xs ys : List (List ℕ)) → position_from t i xs ≡ Some k → position_from t i (xs ++ ys) ≡ Some k
position_append t i k [] ys e = absurd cc
position_append t i k (x ∷ xs) ys e = of (t x) e (position_append t (i + 1) k xs ys)
  where
    of : (b : Bool) → cond b (Some i) (position_from t (i + 1) xs) ≡ Some k → (position_from t (i + 1) xs ≡ Some k → position_from t (i + 1) (xs ++ ys) ≡ Some k)
        → cond b (Some i) (position_from t (i + 1) (xs ++ ys)) ≡ Some k
    of true e rest = e
    of false e rest = rest e

position_behind : (x : List ℕ) (i : ℕ) (xs : List (List ℕ)) → position_from (bytes_eq x) i xs ≡ None → position_from (bytes_eq x) i (xs ++ x ∷ []) ≡ Some (i + length xs)
position_behind x i [] e = rw ((bytes_eq-Decides x x).1 refl) (ap Some (omega arith))
position_behind x i (y ∷ ys) e = of (bytes_eq x y) e (position_behind x (i + 1) ys)
  where
    n : i + 1 + length ys ≡ i + suc (length ys)
    n = omega arith

    of : (b : Bool) → cond b (Some i) (position_from (bytes_eq x) (i + 1) ys) ≡ None
        → (position_from (bytes_eq x) (i + 1) ys ≡ None → position_from (bytes_eq x) (i + 1) (ys ++ x ∷ []) ≡ Some (i + 1 + length ys))
        → cond b (Some i) (position_from (bytes_eq x) (i + 1) (ys ++ x ∷ [])) ≡ Some (i + suc (length ys))
    of true e rest = absurd cc
    of false e rest = rest e ∙ ap Some n

-- the text x is put among the texts, at the place that it has there, or after them
record Put (texts : List (List ℕ)) (x : List ℕ) : Type 0 where
  pub more : List (List ℕ)
  pub is : with_text texts x ≡ texts ++ more
  pub place_is : place_of (with_text texts x) x ≡ Some (unwrap_or (place_of texts x) (length texts))
  pub len : (n : ℕ) → length texts ≤ n → unwrap_or (place_of texts x) (length texts) < n → length (with_text texts x) ≤ n

put : (texts : List (List ℕ)) (x : List ℕ) → Put texts x
put texts x = of (place_of texts x) refl
  where
    zero_more : 0 + length texts ≡ length texts
    zero_more = omega arith

    of : (o : Option ℕ) → place_of texts x ≡ o → Put texts x
    of (Some k) e = record {
      more = [];
      is = rw e (sym (append-nil texts));
      place_is = rw (e, e) refl;
      len = λ n le lt. rw e le;
    }
    of None e = record {
      more = x ∷ [];
      is = rw e refl;
      place_is = rw e (position_behind x 0 texts e ∙ ap Some zero_more);
      len = λ n le lt. rw (e, length_push texts x) (omega (arith, rw e at lt));
    }

-- ---- the variable of a text

-- it has the text exactly where it has its place
same : (texts : List (List ℕ)) (x : List ℕ) (k : ℕ) (v : Variable) → place_of texts x ≡ Some k → place_of texts (text_of texts v) ≡ Some v.text
    → bytes_eq x (text_of texts v) ≡ eqb k v.text
same texts x k v e f =
    same_from_decides (bytes_eq x (text_of texts v)) (eqb k v.text) (bytes_eq-Decides x (text_of texts v)) (
      (λ (t : eqb k v.text ≡ true). sym (text_at texts x k e) ∙ ap (λ (n : ℕ). get_or texts n []) (eqb-true k v.text t)),
      (λ (t : x ≡ text_of texts v). let s : Some k ≡ Some v.text = sym e ∙ ap (place_of texts) t ∙ f in let n : k ≡ v.text = cc in eq-eqb k v.text n),
    )

-- the variable at this depth of n variables
abbrev index_at : ℕ → ℕ → Option ℕ
index_at n zero = None
index_at n (suc d) = Some (n - suc d)

index_step : (b : Bool) (i n d : ℕ) (o : Option ℕ) → o ≡ index_at (i + 1 + n) d → cond b (Some i) o ≡ index_at (i + suc n) (if b then suc n else d)
index_step true i n d o e = ap Some (omega arith)
index_step false i n d o e = let m : i + 1 + n ≡ i + suc n = omega arith in e ∙ ap (λ (l : ℕ). index_at l d) m

found_from : (texts : List (List ℕ)) (x : List ℕ) (k i : ℕ) (vs : List Variable) → place_of texts x ≡ Some k → Hide texts vs
    → position_from (bytes_eq x) i (map (text_of texts) vs) ≡ index_at (i + length vs) (depth_of vs k)
found_from texts x k i [] e h = refl
found_from texts x k i (v ∷ vs) e h =
    rw (same texts x k v e h.0) (index_step (eqb k v.text) i (length vs) (depth_of vs k) (position_from (bytes_eq x) (i + 1) (map (text_of texts) vs)) (found_from texts x k (i + 1) vs e h.2))

found_at : (texts : List (List ℕ)) (x : List ℕ) (k : ℕ) (vs : List Variable) → place_of texts x ≡ Some k → Hide texts vs
    → place_of (map (text_of texts) vs) x ≡ index_at (length vs) (depth_of vs k)
found_at texts x k vs e h =
    let n : 0 + length vs ≡ length vs = omega arith in
    found_from texts x k 0 vs e h ∙ ap (λ (m : ℕ). index_at m (depth_of vs k)) n

pub found : (texts : List (List ℕ)) (x : List ℕ) (k : ℕ) (vs : List Variable) → place_of texts x ≡ Some k → Hide texts vs → 0 < depth_of vs k
    → place_of (map (text_of texts) vs) x ≡ Some (length vs - depth_of vs k)
found texts x k vs e h lt = found_at texts x k vs e h ∙ of (depth_of vs k) lt
  where
    of : (d : ℕ) → 0 < d → index_at (length vs) d ≡ Some (length vs - d)
    of zero lt = absurd (omega arith)
    of (suc d) lt = refl

pub not_now : (texts : List (List ℕ)) (x : List ℕ) (k : ℕ) (vs : List Variable) → place_of texts x ≡ Some k → Hide texts vs → depth_of vs k ≡ 0
    → place_of (map (text_of texts) vs) x ≡ None
not_now texts x k vs e h z = found_at texts x k vs e h ∙ ap (index_at (length vs)) z

never_from : (texts : List (List ℕ)) (x : List ℕ) (i : ℕ) (vs : List Variable) → place_of texts x ≡ None → Hide texts vs → position_from (bytes_eq x) i (map (text_of texts) vs) ≡ None
never_from texts x i [] e h = refl
never_from texts x i (v ∷ vs) e h = of (bytes_eq x (text_of texts v)) refl (never_from texts x (i + 1) vs e h.2)
  where
    of : (b : Bool) → bytes_eq x (text_of texts v) ≡ b → position_from (bytes_eq x) (i + 1) (map (text_of texts) vs) ≡ None
        → cond b (Some i) (position_from (bytes_eq x) (i + 1) (map (text_of texts) vs)) ≡ None
    of true here rest = let s : None ≡ Some v.text = sym e ∙ ap (place_of texts) ((bytes_eq-Decides x (text_of texts v)).0 here) ∙ h.0 in absurd cc
    of false here rest = rest

pub never : (texts : List (List ℕ)) (x : List ℕ) (vs : List Variable) → place_of texts x ≡ None → Hide texts vs → place_of (map (text_of texts) vs) x ≡ None
never texts x vs e h = never_from texts x 0 vs e h

pub depth_within : (vs : List Variable) (k : ℕ) → depth_of vs k ≤ length vs
depth_within [] k = omega arith
depth_within (v ∷ vs) k = of (eqb k v.text) (depth_within vs k)
  where
    of : (b : Bool) → depth_of vs k ≤ length vs → (if b then suc (length vs) else depth_of vs k) ≤ suc (length vs)
    of true le = omega arith
    of false le = omega arith

pub place_next : (texts : List (List ℕ)) (x : List ℕ) → unwrap_or (place_of texts x) (length texts) ≤ length texts
place_next texts x = of (place_of texts x) refl
  where
    of : (o : Option ℕ) → place_of texts x ≡ o → unwrap_or o (length texts) ≤ length texts
    of (Some k) e = omega (arith, place_within texts x k e)
    of None e = omega arith

-- ---- one text more

text_kept : (texts more : List (List ℕ)) (v : Variable) → place_of texts (text_of texts v) ≡ Some v.text → text_of (texts ++ more) v ≡ text_of texts v
text_kept texts more v e = get_or_append_left texts more [] v.text (place_within texts (text_of texts v) v.text e)

texts_kept : (texts more : List (List ℕ)) (vs : List Variable) → Hide texts vs → map (text_of (texts ++ more)) vs ≡ map (text_of texts) vs
texts_kept texts more [] h = refl
texts_kept texts more (v ∷ vs) h = rw (text_kept texts more v h.0, texts_kept texts more vs h.2) refl

hide_kept : (texts more : List (List ℕ)) (vs : List Variable) → Hide texts vs → Hide (texts ++ more) vs
hide_kept texts more [] h = tt
hide_kept texts more (v ∷ vs) h =
    (ap (place_of (texts ++ more)) (text_kept texts more v h.0) ∙ position_append (bytes_eq (text_of texts v)) 0 v.text texts more h.0, h.1, hide_kept texts more vs h.2)

module _ (texts : List (List ℕ)) (depths : List ℕ) (vs : List Variable) (k : Kept texts depths vs) where
  -- more room alone
  pub kept_room : (more : List ℕ) → length depths ≤ length more → ((j : ℕ) → get_or more j 0 ≡ get_or depths j 0) → Kept texts more vs
  kept_room more le is = record { few = k.few; room = omega (arith, k.room); innermost = λ j. is j ∙ k.innermost j; hide = k.hide }

  pub kept_put : (x : List ℕ) → unwrap_or (place_of texts x) (length texts) < length depths → Kept (with_text texts x) depths vs
  kept_put x lt =
      let p : Put texts x = put texts x in
      record { few = k.few; room = p.len (length depths) k.room lt; innermost = k.innermost; hide = rw p.is (hide_kept texts p.more vs k.hide) }

pub texts_put : (texts : List (List ℕ)) (x : List ℕ) (vs : List Variable) → Hide texts vs → map (text_of (with_text texts x)) vs ≡ map (text_of texts) vs
texts_put texts x vs h = let p : Put texts x = put texts x in rw p.is (texts_kept texts p.more vs h)

-- ---- the innermost variable is put in or taken out

set_at : (ds : List ℕ) (j n k : ℕ) → j < length ds → get_or (set ds j n) k 0 ≡ (if eqb k j then n else get_or ds k 0)
set_at ds j n k lt = of (eqb k j) refl
  where
    of : (b : Bool) → eqb k j ≡ b → get_or (set ds j n) k 0 ≡ (if b then n else get_or ds k 0)
    of true e = rw (eqb-true k j e) (get_or-set_same ds j n 0 lt)
    of false e = get_or-set_other ds j k n 0 (eqb-false k j e)

module _ (texts : List (List ℕ)) (depths : List ℕ) (v : Variable) (vs : List Variable) where
  pub kept_push : Kept texts depths vs → suc (length vs) < 2 ^ 32 → place_of texts (text_of texts v) ≡ Some v.text → v.hides ≡ get_or depths v.text 0
      → Kept texts (set depths v.text (suc (length vs))) (v ∷ vs)
  kept_push k few is hides =
      let lt : v.text < length depths = omega (arith, place_within texts (text_of texts v) v.text is, k.room) in
      record {
        few = few;
        room = omega (arith, k.room, length-set depths v.text (suc (length vs)));
        innermost = λ j. set_at depths v.text (suc (length vs)) j lt ∙ ap (λ (n : ℕ). if eqb j v.text then suc (length vs) else n) (k.innermost j);
        hide = (is, hides ∙ k.innermost v.text, k.hide);
      }

  pub last_within : Kept texts depths (v ∷ vs) → v.text < length depths
  last_within k = omega (arith, place_within texts (text_of texts v) v.text k.hide.0, k.room)

  pub kept_pop : Kept texts depths (v ∷ vs) → Kept texts (set depths v.text v.hides) vs
  kept_pop k = record {
    few = omega (arith, k.few);
    room = omega (arith, k.room, length-set depths v.text v.hides);
    innermost = λ j. set_at depths v.text v.hides j (last_within k) ∙ back j (eqb j v.text) refl (k.innermost j);
    hide = k.hide.2;
  }
    where
      back : (j : ℕ) (b : Bool) → eqb j v.text ≡ b → get_or depths j 0 ≡ (if b then suc (length vs) else depth_of vs j) → (if b then v.hides else get_or depths j 0) ≡ depth_of vs j
      back j true e is = rw (eqb-true j v.text e) k.hide.1
      back j false e is = is

last_first : {A : Type 0} (xs ys : List A) (x : A) → ys ≡ xs ++ x ∷ [] → reverse ys ≡ x ∷ reverse xs
last_first xs ys x e = ap reverse e ∙ reverse_push xs x

-- a variable is put in: x is its text, and it is at the place k among the texts, of which it may be a new one
module _ (texts names : List (List ℕ)) (x : List ℕ) (depths more : List ℕ) (variables : List Variable) (k : ℕ) where
  pub kept_named : Kept texts depths (reverse variables) → k ≡ unwrap_or (place_of texts x) (length texts) → k < length more → length depths ≤ length more
      → ((j : ℕ) → get_or more j 0 ≡ get_or depths j 0) → names ≡ with_text texts x → Kept names more (reverse variables)
  kept_named kept is lt le same e = rw e (kept_put texts more (reverse variables) (kept_room texts depths (reverse variables) kept more le same) x (rw is at lt))

  named_at : k ≡ unwrap_or (place_of texts x) (length texts) → names ≡ with_text texts x → place_of names x ≡ Some k
  named_at is e = rw (e, is) (put texts x).place_is

  module _ (v : Variable) (after : List Variable) (text : v.text ≡ k) (pushed : after ≡ variables ++ v ∷ []) (is : k ≡ unwrap_or (place_of texts x) (length texts)) (e : names ≡ with_text texts x) where
    text_is : text_of names v ≡ x
    text_is = ap (λ (j : ℕ). get_or names j []) text ∙ text_at names x k (named_at is e)

    pub kept_pushed : Kept names more (reverse variables) → (n : ℕ) → n ≡ length after → n < 2 ^ 32 → v.hides ≡ get_or more k 0 → Kept names (set more k n) (reverse after)
    kept_pushed kept n len few hides =
        let m : n ≡ suc (length (reverse variables)) = omega (arith, len, ap length pushed, length_push variables v, length-reverse variables) in
        let place : place_of names (text_of names v) ≡ Some v.text = ap (place_of names) text_is ∙ named_at is e ∙ ap Some (sym text) in
        let hidden : v.hides ≡ get_or more v.text 0 = hides ∙ ap (λ (j : ℕ). get_or more j 0) (sym text) in
        rw (last_first variables after v pushed, m, ← text) (kept_push names more v (reverse variables) kept (omega (arith, m, few)) place hidden)

    pub texts_pushed : Hide texts (reverse variables) → map (text_of names) (reverse after) ≡ x ∷ map (text_of texts) (reverse variables)
    texts_pushed hide =
        rw (last_first variables after v pushed, text_is)
        (ap (λ (l : List (List ℕ)). x ∷ l) (ap (λ (ts : List (List ℕ)). map (text_of ts) (reverse variables)) e ∙ texts_put texts x (reverse variables) hide))

-- the innermost variable is taken out
module _ (texts : List (List ℕ)) (depths : List ℕ) (before after : List Variable) (v : Variable) (popped : before ≡ after ++ v ∷ []) where
  pub popped_within : Kept texts depths (reverse before) → v.text < length depths
  popped_within kept = last_within texts depths v (reverse after) (rw (last_first after before v popped) at kept)

  pub kept_popped : Kept texts depths (reverse before) → Kept texts (set depths v.text v.hides) (reverse after)
  kept_popped kept = kept_pop texts depths v (reverse after) (rw (last_first after before v popped) at kept)

  pub texts_popped : map (text_of texts) (reverse after) ≡ drop 1 (map (text_of texts) (reverse before))
  texts_popped = rw (last_first after before v popped) refl
