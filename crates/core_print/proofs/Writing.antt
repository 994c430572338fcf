-- Texts that are written one after the other.
use Rattle.std.proofs.Common.{◌≡◌, ◌++◌, ap, ◌∙◌, append_assoc}
use Rattle.core_print.specs.Apart.{Text}

pub written_two : (a x y o1 o2 : Text) → o1 ≡ a ++ x → o2 ≡ o1 ++ y → o2 ≡ a ++ (x ++ y)
written_two a x y o1 o2 e f = f ∙ (ap (λ (o : Text). o ++ y) e ∙ append_assoc a x y)

pub written_three : (a x y z o1 o2 o3 : Text) → o1 ≡ a ++ x → o2 ≡ o1 ++ y → o3 ≡ o2 ++ z → o3 ≡ a ++ (x ++ (y ++ z))
written_three a x y z o1 o2 o3 e f g = written_two a x (y ++ z) o1 o3 e (written_two o1 y z o2 o3 f g)

pub written_four : (a x y z u o1 o2 o3 o4 : Text) → o1 ≡ a ++ x → o2 ≡ o1 ++ y → o3 ≡ o2 ++ z → o4 ≡ o3 ++ u → o4 ≡ a ++ (x ++ (y ++ (z ++ u)))
written_four a x y z u o1 o2 o3 o4 e f g h = written_two a x (y ++ (z ++ u)) o1 o4 e (written_three o1 y z u o2 o3 o4 f g h)

pub written_five : (a x y z u v o1 o2 o3 o4 o5 : Text) → o1 ≡ a ++ x → o2 ≡ o1 ++ y → o3 ≡ o2 ++ z → o4 ≡ o3 ++ u → o5 ≡ o4 ++ v
    → o5 ≡ a ++ (x ++ (y ++ (z ++ (u ++ v))))
written_five a x y z u v o1 o2 o3 o4 o5 e f g h i = written_two a x (y ++ (z ++ (u ++ v))) o1 o5 e (written_four o1 y z u v o2 o3 o4 o5 f g h i)

pub written_six : (a x y z u v t o1 o2 o3 o4 o5 o6 : Text) → o1 ≡ a ++ x → o2 ≡ o1 ++ y → o3 ≡ o2 ++ z → o4 ≡ o3 ++ u → o5 ≡ o4 ++ v → o6 ≡ o5 ++ t
    → o6 ≡ a ++ (x ++ (y ++ (z ++ (u ++ (v ++ t)))))
written_six a x y z u v t o1 o2 o3 o4 o5 o6 e f g h i j = written_two a x (y ++ (z ++ (u ++ (v ++ t)))) o1 o6 e (written_five o1 y z u v t o2 o3 o4 o5 o6 f g h i j)
