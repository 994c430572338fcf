-- An argument list as a term: each item applied to the rest, and a sort at the end. So what walks terms walks argument lists.
use Rattle.std.specs.Prelude.{◌≡◌, ℕ, refl}
use Rattle.std.proofs.Common.{sym, ap, ◌∙◌}
use Rattle.core_rules.specs.declared.Flag.TheVariants.{Explicit}
use Rattle.core_rules.specs.Term.{Term, Terms, Var, Sort, Pi, Lam, App, Def, Fam, Con, Proj, Meta, End, And}
use Rattle.core_rules.specs.Substitution.{over, over_all}

abbrev pub list : Terms → Term
list End = Sort 0
list (And t ts) = App Explicit t (list ts)

-- the items of a list
abbrev pub items : Term → Terms
items (App b t u) = And t (items u)
items (Var i) = End
items (Sort n) = End
items (Pi b x a t) = End
items (Lam b x a t) = End
items (Def f) = End
items (Fam d) = End
items (Con k ts) = End
items (Proj f t) = End
items (Meta m ts) = End

abbrev pub IsList : Term → Type 0
IsList t = t ≡ list (items t)

pub items_list : (ts : Terms) → items (list ts) ≡ ts
items_list End = refl
items_list (And t ts) = cc (items_list ts)

pub list_is : (ts : Terms) → IsList (list ts)
list_is ts = ap list (sym (items_list ts))

over_list : (f : ℕ → ℕ → Term) (d : ℕ) (ts : Terms) → over f d (list ts) ≡ list (over_all f d ts)
over_list f d End = refl
over_list f d (And t ts) = cc (over_list f d ts)

-- a change of a list is the list of the changed items
over_is : (f : ℕ → ℕ → Term) (d : ℕ) (t : Term) → IsList t → over f d t ≡ list (over_all f d (items t))
over_is f d t h = ap (over f d) h ∙ over_list f d (items t)

pub over_items : (f : ℕ → ℕ → Term) (d : ℕ) (t : Term) → IsList t → items (over f d t) ≡ over_all f d (items t)
over_items f d t h = ap items (over_is f d t h) ∙ items_list (over_all f d (items t))

pub IsList-over : (f : ℕ → ℕ → Term) (d : ℕ) (t : Term) → IsList t → IsList (over f d t)
IsList-over f d t h = over_is f d t h ∙ ap list (sym (over_items f d t h))

pub list_one : (t u : Term) → IsList t → IsList u → items t ≡ items u → t ≡ u
list_one t u h k e = h ∙ (ap list e ∙ sym k)
