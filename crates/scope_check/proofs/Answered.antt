-- Answers one behind another, and lists of them behind those found.
use Rattle.std.proofs.Common.{◌≡◌, ◌∙◌, Ok, Err, List, [], ◌∷◌, ◌++◌, refl, ap, sym, append_assoc}
use Rattle.std.proofs.lemmas.List.{append-nil}
use Rattle.scope_check.specs.Answers.{Checked, and_then, made, each_from}

pub then_by : {A B : Type 0} {m n : Checked A} {r : Checked B} (f : A → Checked B) → m ≡ n → and_then n f ≡ r → and_then m f ≡ r
then_by f e q = ap (λ (t : Checked _). and_then t f) e ∙ q

pub made_by : {A B : Type 0} {m n : Checked A} (f : A → B) → m ≡ n → made f m ≡ made f n
made_by f e = ap (λ (t : Checked _). made f t) e

-- ---- lists

made_behind : {A : Type 0} (xs ys : List A) (m : Checked (List A)) → made (λ zs. (xs ++ ys) ++ zs) m ≡ made (λ zs. xs ++ zs) (made (λ zs. ys ++ zs) m)
made_behind xs ys (Ok zs) = ap (λ (l : List _). Ok l) (append_assoc xs ys zs)
made_behind xs ys (Err e) = refl

each_behind : {A : Type 0} (found : List A) (ms : List (Checked A)) → each_from found ms ≡ made (λ ys. found ++ ys) (each_from [] ms)
unfolding each_from
each_behind found [] = ap (λ (l : List _). Ok l) (sym (append-nil found))
each_behind found (Err e ∷ ms) = refl
each_behind found (Ok x ∷ ms) = each_behind (found ++ x ∷ []) ms ∙ made_behind found (x ∷ []) (each_from [] ms) ∙ made_by (λ ys. found ++ ys) (sym (each_behind (x ∷ []) ms))

pub each_first : {A : Type 0} (m : Checked A) (ms : List (Checked A)) → each_from [] (m ∷ ms) ≡ and_then m (λ x. made (λ ys. x ∷ ys) (each_from [] ms))
unfolding each_from
each_first (Ok x) ms = each_behind (x ∷ []) ms
each_first (Err e) ms = refl

-- ---- lists with something behind them

module _ {A S : Type 0} where
  -- what is found, with more of it behind
  abbrev pub behind : List A → Checked (List A × S) → Checked (List A × S)
  behind found m = made (λ z. (found ++ z.0, z.1)) m

  pub behind_none : (found : List A) (s : S) → Ok (found, s) ≡ behind found (Ok ([], s))
  behind_none found s = ap (λ (l : List A). Ok (l, s)) (sym (append-nil found))

  pub behind_both : (xs ys : List A) (m : Checked (List A × S)) → behind (xs ++ ys) m ≡ behind xs (behind ys m)
  behind_both xs ys (Ok z) = ap (λ (l : List A). Ok (l, z.1)) (append_assoc xs ys z.0)
  behind_both xs ys (Err e) = refl

  pub then_behind : {B : Type 0} (found : List A) (m : Checked B) (f g : B → Checked (List A × S)) → ((b : B) → f b ≡ behind found (g b)) → and_then m f ≡ behind found (and_then m g)
  then_behind found (Ok b) f g e = e b
  then_behind found (Err q) f g e = refl

pub then_same : {A B : Type 0} (m : Checked A) (f g : A → Checked B) → ((x : A) → f x ≡ g x) → and_then m f ≡ and_then m g
then_same (Ok x) f g e = e x
then_same (Err q) f g e = refl
