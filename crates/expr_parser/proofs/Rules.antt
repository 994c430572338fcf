-- Each rule of the grammar of expressions is read as the grammar says.
use Rattle.std.proofs.Common.{◌≡◌, ℕ, zero, suc, ◌≤◌, ◌<◌, ◌+◌, true, false, List, [], ◌∷◌, ◌++◌, ◌⊎◌, inl, inr, length, map, refl, sym, ap, ◌∙◌, arith}
use Rattle.source_tree.specs.declared.place.Name.{Name}
use Rattle.source_tree.specs.declared.expr.Expr.{Expr}
use Rattle.source_tree.specs.declared.expr.Expr.TheVariants as e
use Rattle.source_tree.specs.declared.expr.Arg.{Arg}
use Rattle.source_tree.specs.declared.expr.Arg.TheVariants as a
use Rattle.source_tree.specs.declared.expr.Binder.{Binder}
use Rattle.source_tree.specs.declared.expr.Binder.TheVariants as b
use Rattle.source_tree.specs.declared.expr.FieldValue.{FieldValue}
use Rattle.source_tree.specs.Places.{joined, expr_place, binder_place}
use Rattle.agda_grammar.specs.declared.sign.Kind.{Kind}
use Rattle.agda_grammar.specs.declared.sign.Kind.TheVariants as k
use Rattle.agda_grammar.specs.declared.sign.Mark.{Mark}
use Rattle.agda_grammar.specs.declared.sign.Sign.{Sign}
use Rattle.agda_grammar.specs.declared.bracket.Bracket.{Bracket}
use Rattle.agda_grammar.specs.declared.bracket.Bracket.TheVariants.{Round, Curly}
use Rattle.expr_parser.specs.declared.quantifier.Quantifier.TheVariants as q
use Rattle.agda_grammar.specs.Names.{name_of}
use Rattle.agda_grammar.specs.Signs.{Input, tok}
use Rattle.agda_grammar.specs.Trees.{open_of, close_of, typed_binder, applied}
use Rattle.expr_parser.specs.Cursor.{same_kind, is, expect, begins_atom, colon_follows, equals_follows}
use Rattle.agda_grammar.specs.Grammar.{Atom, Named, Qualified, Level, Hole, Blank, Paren, Record, NoField, Field, LastField, NextField, Argument, Plain, Braced, Equated, Projected, ProjectedQualified, Arguments, NoArgument, More, Typed, Typing, MoreTyped, LastTyped, NextTyped, Bound, BoundName, BoundBraced, BoundTyped, LastBound, NextBound, LambdaBound, BoundBlank, BoundAs, LastLambdaBound, NextLambdaBound, Derivation, Pi, Forall, Lambda, App, Arrow, names_then, atom_then, fields_then, more_fields_then, argument_then, arguments_then, typed_then, more_typed_then, bound_then, more_bound_then, lambda_bound_then, more_lambda_bound_then, then, atom_tree, fields_tree, more_fields_tree, argument_tree, arguments_tree, typed_tree, more_typed_tree, bound_tree, more_bound_tree, lambda_bound_tree, more_lambda_bound_tree, tree}
use Rattle.expr_parser.specs.Syntax.{begins_typed, begins_arg, begins_bound, begins_binder, name, one_name, names, typed_from, typed_after, typed, one_typed, more_typed, pi_from, paren_after, field, one_field, more_fields, fields, record_atom, simple_atom, named_arg, implicit_arg, braced_arg, project_arg, arg, one_arg, args, arrow_tail, app_from, after_paren, braced_from, bound, lambda_bound, binder, one_binder, binders, quantified, level, expr}
use Rattle.parse_laws.specs.Parser.{◌>>=◌, pure, one, next_is, many_from}
use Rattle.parse_laws.proofs.Good.{Language, Good, Seq, bind_good, pure_good, weaken, shorten, choose_good, deeper_good, UpTo, good_up, bind_up}
use Rattle.parse_laws.proofs.Many.{AllOf, Item, Behind, many_good, optional_good, turns_up}
use Rattle.parse_laws.proofs.Look.{lined, lined_longer, look_good}
use Rattle.expr_parser.proofs.Steps.{Gives, Spells, both, single, nothing, in_front, As, AsBehind, of_parts, long_as, all_of, Is, expect_good, after_sign}
use Rattle.expr_parser.proofs.NameRules.{IsName, name_good, names_good, all_names, name_is, over_colon, over_equals, names_up, lined_count, left_eats}

-- ---- expressions

pub data Tail : Type 0 where
  NoTail : Tail
  ArrowTail : Mark → Derivation → Tail

abbrev pub tail_then : Tail → Input → Input
tail_then NoTail rest = rest
tail_then (ArrowTail w d) rest = tok k.Arrow w ∷ then d rest

abbrev pub finished : Atom → Arguments → Tail → Derivation
finished x xs NoTail = App x xs
finished x xs (ArrowTail w d) = Arrow x xs w d

pub finished_then : (x : Atom) (xs : Arguments) (t : Tail) (rest : Input) → then (finished x xs t) rest ≡ atom_then x (arguments_then xs (tail_then t rest))
finished_then x xs NoTail rest = refl
finished_then x xs (ArrowTail w d) rest = refl

module _ (text : List ℕ) where
  abbrev pub Derives : Language Sign Expr
  Derives = As then (tree text)

  abbrev pub tail_tree : Expr → Tail → Expr
  tail_tree left NoTail = left
  tail_tree left (ArrowTail w d) = e.Arrow (joined (expr_place left) (expr_place (tree text d))) left (tree text d)

  pub finished_tree : (x : Atom) (xs : Arguments) (t : Tail) → tree text (finished x xs t) ≡ tail_tree (applied (atom_tree text x) (arguments_tree text xs)) t
  finished_tree x xs NoTail = refl
  finished_tree x xs (ArrowTail w d) = refl

  module _ (n : ℕ) (goodi : Good Derives (expr text) 0 n) where
    -- ---- typed binders

    abbrev TypedFrom : Bracket → Mark → Name → Language Sign Binder
    TypedFrom c l x = As (λ (p : List Mark × Mark × Derivation × Mark). λ rest. names_then p.0 (tok k.Colon p.1 ∷ then p.2 (tok (close_of c) p.3 ∷ rest)))
        (λ p. typed_binder c (joined l.place p.3.place) (x ∷ map (name_of text) p.0) (tree text p.2))

    typed_from_good : (c : Bracket) (l : Mark) (x : Name) → Good (TypedFrom c l x) (λ j. typed_from text j (expr text j) c l x) 0 n
    unfolding typed_from
    typed_from_good c l x = weaken _ _ _ 0 n (λ y cs r.
        let o = r.second in let d = o.second in let w = d.second in
        let xs = all_names text (x ∷ []) r.first.more r.front r.first.each in record {
          derivation = (xs.derivation, o.value, d.first.derivation, w.value);
          gives = w.second.0 ∙ (λ i. typed_binder c (joined l.place w.value.place) (r.first.is i) (d.value)) ∙ (λ i. typed_binder c (joined l.place w.value.place) (x ∷ xs.gives i) (d.first.gives i));
          spells = record { at = (both r.whole xs.spells (both o.whole (single k.Colon _ _ o.first) (both d.whole d.first.spells (both w.whole (single (close_of c) _ _ w.first) (nothing _ w.second.1))))).at };
        })
        (bind_good _ _ _ _ 0 n (names_good text (x ∷ []) n) (λ xs. bind_good _ _ _ _ 0 n (expect_good k.Colon 0 n) (λ _. bind_good _ _ _ _ 0 n goodi
        (λ ty. bind_good _ _ _ _ 0 n (expect_good (close_of c) 0 n) (λ r. pure_good (typed_binder c (joined l.place r.place) xs ty) 0 n)))))

    abbrev TypedAfter : Bracket → Mark → Language Sign Binder
    TypedAfter c l = As (λ (p : Mark × List Mark × Mark × Derivation × Mark). λ rest. tok k.Name p.0 ∷ names_then p.1 (tok k.Colon p.2 ∷ then p.3 (tok (close_of c) p.4 ∷ rest)))
        (λ p. typed_tree text (Typing c l p.0 p.1 p.2 p.3 p.4))

    typed_after_good : (c : Bracket) (l : Mark) → Good (TypedAfter c l) (λ j. typed_after text j (expr text j) c l) 0 n
    unfolding typed_after
    typed_after_good c l = weaken _ _ _ 0 n (λ y cs r. let f = r.first.derivation in let p = r.second.derivation in record {
      derivation = (f, p.0, p.1, p.2, p.3);
      gives = r.second.gives ∙ ap (λ (x : Name). typed_binder c (joined l.place p.3.place) (x ∷ map (name_of text) p.0) (tree text p.2)) r.first.gives;
      spells = record { at = (both r.whole r.first.spells r.second.spells).at };
    })
        (bind_good _ _ _ _ 0 n (name_good text 0 n) (λ x. typed_from_good c l x))

    abbrev pub IsTyped : Language Sign Binder
    IsTyped = As typed_then (typed_tree text)

    of_after : (c : Bracket) (y : Binder) (cs : Input) → Seq (Is (open_of c)) (λ l. TypedAfter c l) y cs → IsTyped y cs
    of_after c y cs r = let p = r.second.derivation in record {
      derivation = Typing c r.value p.0 p.1 p.2 p.3 p.4;
      gives = r.second.gives;
      spells = record { at = (both r.whole (single (open_of c) _ _ r.first) r.second.spells).at };
    }

    typed_good : Good IsTyped (λ j. typed text j (expr text j)) 1 n
    unfolding typed
    typed_good = choose_good (is k.ParenOpen) _ _ _ 1 n
        (weaken _ _ _ 1 n (of_after Round) (after_sign k.ParenOpen _ _ n (λ l. typed_after_good Round l)))
        (weaken _ _ _ 1 n (of_after Curly) (after_sign k.BraceOpen _ _ n (λ l. typed_after_good Curly l)))

    typed_long : (d : Typed) → 0 < length (typed_then d [])
    typed_long (Typing c l x xs o d r) = omega arith

    pub more_typed_good : (found : List Binder) → Good (Behind (λ _. IsTyped) found) (λ j. more_typed text j (expr text j) found) 0 n
    unfolding more_typed one_typed
    more_typed_good found = many_good (λ _. IsTyped) (λ j _. one_typed text j (expr text j)) 0 n
        (λ f. optional_good begins_typed (λ _. IsTyped) f (λ j. typed text j (expr text j)) 0 n (shorten _ _ n typed_good) (long_as _ _ typed_long)) (λ m f. refl) (omega arith) found

    pub all_typed : (found xs : List Binder) (c : Input) → AllOf (λ _. IsTyped) found xs c → As more_typed_then (more_typed_tree text) xs c
    all_typed = all_of typed_then (typed_tree text) more_typed_then (more_typed_tree text) LastTyped NextTyped (λ rest. refl) refl (λ d ds rest. refl) (λ d ds. refl)

    abbrev PiFrom : Binder → Language Sign Expr
    PiFrom x = As (λ (p : MoreTyped × Mark × Derivation). λ rest. more_typed_then p.0 (tok k.Arrow p.1 ∷ then p.2 rest))
        (λ p. e.Pi (joined (binder_place x) (expr_place (tree text p.2))) (x ∷ more_typed_tree text p.0) (tree text p.2))

    pi_from_good : (x : Binder) → Good (PiFrom x) (λ j. pi_from text j (expr text j) x) 0 n
    unfolding pi_from
    pi_from_good x = weaken _ _ _ 0 n (λ y cs r.
        let w = r.second in let d = w.second in let xs = all_typed (x ∷ []) r.first.more r.front r.first.each in record {
          derivation = (xs.derivation, w.value, d.first.derivation);
          gives = d.second.0 ∙ (λ i. e.Pi (joined (binder_place x) (expr_place d.value)) (r.first.is i) d.value) ∙ (λ i. e.Pi (joined (binder_place x) (expr_place (d.first.gives i))) (x ∷ xs.gives i) (d.first.gives i));
          spells = record { at = (both r.whole xs.spells (both w.whole (single k.Arrow _ _ w.first) (both d.whole d.first.spells (nothing _ d.second.1)))).at };
        })
        (bind_good _ _ _ _ 0 n (more_typed_good (x ∷ [])) (λ xs. bind_good _ _ _ _ 0 n (expect_good k.Arrow 0 n) (λ _. bind_good _ _ _ _ 0 n goodi
        (λ body. pure_good (e.Pi (joined (binder_place x) (expr_place body)) xs body) 0 n))))

    -- ---- atoms

    abbrev ParenAfter : Language Sign Expr
    ParenAfter = As (λ (p : Derivation × Mark). λ rest. then p.0 (tok k.ParenClose p.1 ∷ rest)) (λ p. tree text p.0)

    paren_after_good : Good ParenAfter (λ j. paren_after text j (expr text j)) 0 n
    unfolding paren_after
    paren_after_good = weaken _ _ _ 0 n (λ y cs r. let w = r.second in record {
      derivation = (r.first.derivation, w.value);
      gives = w.second.0 ∙ r.first.gives;
      spells = record { at = (both r.whole r.first.spells (both w.whole (single k.ParenClose _ _ w.first) (nothing _ w.second.1))).at };
    })
        (bind_good _ _ _ _ 0 n goodi (λ x. bind_good _ _ _ _ 0 n (expect_good k.ParenClose 0 n) (λ _. pure_good x 0 n)))

    abbrev IsField : Language Sign FieldValue
    IsField = As (λ (p : Mark × Mark × Derivation). λ rest. tok k.Name p.0 ∷ tok k.Equals p.1 ∷ then p.2 rest) (λ p. record { name = name_of text p.0; value = tree text p.2 })

    field_good : Good IsField (λ j. field text j (expr text j)) 0 n
    unfolding field
    field_good = weaken _ _ _ 0 n (λ y cs r. let w = r.second in let d = w.second in record {
      derivation = (r.first.derivation, w.value, d.first.derivation);
      gives = d.second.0 ∙ (λ i. let v : FieldValue = record { name = r.first.gives i; value = d.first.gives i } in v);
      spells = record { at = (both r.whole r.first.spells (both w.whole (single k.Equals _ _ w.first) (both d.whole d.first.spells (nothing _ d.second.1)))).at };
    })
        (bind_good _ _ _ _ 0 n (name_good text 0 n) (λ x. bind_good _ _ _ _ 0 n (expect_good k.Equals 0 n) (λ _. bind_good _ _ _ _ 0 n goodi
        (λ v. pure_good (let f : FieldValue = record { name = x; value = v } in f) 0 n))))

    abbrev NextIsField : Language Sign FieldValue
    NextIsField = As (λ (p : Mark × Mark × Mark × Derivation). λ rest. tok k.Semicolon p.0 ∷ tok k.Name p.1 ∷ tok k.Equals p.2 ∷ then p.3 rest) (λ p. record { name = name_of text p.1; value = tree text p.3 })

    one_field_good : (found : List FieldValue) → Good (Item (λ _. NextIsField) found) (λ j. one_field text j (expr text j)) 0 n
    unfolding one_field
    one_field_good found = optional_good (is k.Semicolon) (λ _. NextIsField) found _ 0 n
        (weaken _ _ _ 0 n (λ y cs r. let p = r.second.derivation in record {
          derivation = (r.value, p.0, p.1, p.2);
          gives = r.second.gives;
          spells = record { at = (both r.whole (single k.Semicolon _ _ r.first) r.second.spells).at };
        }) (bind_good _ _ _ _ 0 n (expect_good k.Semicolon 0 n) (λ _. field_good)))
        (long_as _ _ (λ d. omega arith))

    more_fields_good : (found : List FieldValue) → Good (Behind (λ _. NextIsField) found) (λ j. more_fields text j (expr text j) found) 0 n
    unfolding more_fields one_field
    more_fields_good found = many_good (λ _. NextIsField) (λ j _. one_field text j (expr text j)) 0 n one_field_good (λ m f. refl) (omega arith) found

    all_fields : (found xs : List FieldValue) (c : Input) → AllOf (λ _. NextIsField) found xs c → As more_fields_then (more_fields_tree text) xs c
    all_fields = all_of (λ (p : Mark × Mark × Mark × Derivation). λ rest. tok k.Semicolon p.0 ∷ tok k.Name p.1 ∷ tok k.Equals p.2 ∷ then p.3 rest) (λ p. record { name = name_of text p.1; value = tree text p.3 })
        more_fields_then (more_fields_tree text) LastField (λ p. NextField p.0 p.1 p.2 p.3) (λ rest. refl) refl (λ d ds rest. refl) (λ d ds. refl)

    abbrev IsFields : Language Sign (List FieldValue)
    IsFields = As fields_then (fields_tree text)

    fields_good : Good IsFields (λ j. fields text j (expr text j)) 0 n
    unfolding fields
    fields_good = choose_good (is k.Name) IsFields _ _ 0 n
        (weaken _ _ _ 0 n (λ y cs r. let p = r.first.derivation in let xs = all_fields (r.value ∷ []) r.second.more r.back r.second.each in record {
          derivation = Field p.0 p.1 p.2 xs.derivation;
          gives = r.second.is ∙ (λ i. r.first.gives i ∷ xs.gives i);
          spells = record { at = (both r.whole r.first.spells xs.spells).at };
        }) (bind_good _ _ _ _ 0 n field_good (λ x. more_fields_good (x ∷ []))))
        (weaken _ _ _ 0 n (λ y cs r. record { derivation = NoField; gives = r.0; spells = record { at = (nothing _ r.1).at } }) (pure_good [] 0 n))

    abbrev IsAtom : Language Sign Expr
    IsAtom = As atom_then (atom_tree text)

    record_good : Good IsAtom (λ j. record_atom text j (expr text j)) 1 n
    unfolding record_atom
    record_good = weaken _ _ _ 1 n (λ y cs r. let l = r.second in let fs = l.second in let w = fs.second in record {
      derivation = Record r.value l.value fs.first.derivation w.value;
      gives = w.second.0 ∙ (λ i. e.Record (joined r.value.place w.value.place) (fs.first.gives i));
      spells = record { at = (both r.whole (single k.Record _ _ r.first) (both l.whole (single k.BraceOpen _ _ l.first) (both fs.whole fs.first.spells (both w.whole (single k.BraceClose _ _ w.first) (nothing _ w.second.1))))).at };
    })
        (after_sign k.Record _ _ n (λ w. bind_good _ _ _ _ 0 n (expect_good k.BraceOpen 0 n) (λ _. bind_good _ _ _ _ 0 n fields_good (λ fs. bind_good _ _ _ _ 0 n (expect_good k.BraceClose 0 n)
        (λ r. pure_good (e.Record (joined w.place r.place) fs) 0 n)))))

    one_atom : (kind : Kind) (d : Mark → Atom) (v : Mark → Expr) → ((m : Mark) → v m ≡ atom_tree text (d m)) → ((m : Mark) (rest : Input) → atom_then (d m) rest ≡ tok kind m ∷ rest)
        → Good IsAtom (λ j. expect kind >>= (λ m. pure (v m))) 1 n
    one_atom kind d v is_tree is_then = weaken _ _ _ 1 n (λ y cs r. record {
      derivation = d r.value;
      gives = r.second.0 ∙ is_tree r.value;
      spells = record { at = λ rest. is_then r.value rest ∙ (both r.whole (single kind _ _ r.first) (nothing _ r.second.1)).at rest };
    })
        (bind_good (Is kind) (λ m. Gives (v m)) (λ j. expect kind) (λ m j. pure (v m)) 1 n (expect_good kind 1 n) (λ m. pure_good (v m) 1 n))

    simple_good : Good IsAtom (λ j. simple_atom text j (expr text j)) 1 n
    unfolding simple_atom
    simple_good =
        choose_good (is k.Name) IsAtom _ _ 1 n (one_atom k.Name Named (λ m. e.Name (name_of text m)) (λ m. refl) (λ m rest. refl))
        (choose_good (is k.Qualified) IsAtom _ _ 1 n (one_atom k.Qualified Qualified (λ m. e.Qualified (name_of text m)) (λ m. refl) (λ m rest. refl))
        (choose_good (is k.SetLevel) IsAtom _ _ 1 n (one_atom k.SetLevel Level (λ m. e.SetLevel m.place m.level) (λ m. refl) (λ m rest. refl))
        (choose_good (is k.Hole) IsAtom _ _ 1 n (one_atom k.Hole Hole (λ m. e.Hole m.place) (λ m. refl) (λ m rest. refl))
        (choose_good (is k.Underscore) IsAtom _ _ 1 n (one_atom k.Underscore Blank (λ m. e.Underscore m.place) (λ m. refl) (λ m rest. refl))
        record_good))))

    -- ---- arguments

    abbrev IsArgument : Language Sign Arg
    IsArgument = As argument_then (argument_tree text)

    abbrev BracedArg : Mark → Language Sign Arg
    BracedArg l = AsBehind argument_then (argument_tree text) k.BraceOpen l

    named_arg_good : (l : Mark) → Good (BracedArg l) (λ j. named_arg text j (expr text j) l) 0 n
    unfolding named_arg
    named_arg_good l = weaken _ _ _ 0 n (λ y cs r. let o = r.second in let d = o.second in let w = d.second in (
      Equated l r.first.derivation o.value d.first.derivation w.value,
      w.second.0 ∙ (λ i. a.Named (joined l.place w.value.place) (r.first.gives i) (d.first.gives i)),
      record { at = (in_front (tok k.BraceOpen l) (both r.whole r.first.spells (both o.whole (single k.Equals _ _ o.first) (both d.whole d.first.spells (both w.whole (single k.BraceClose _ _ w.first) (nothing _ w.second.1)))))).at },
    ))
        (bind_good _ _ _ _ 0 n (name_good text 0 n) (λ x. bind_good _ _ _ _ 0 n (expect_good k.Equals 0 n) (λ _. bind_good _ _ _ _ 0 n goodi (λ v. bind_good _ _ _ _ 0 n (expect_good k.BraceClose 0 n)
        (λ r. pure_good (a.Named (joined l.place r.place) x v) 0 n)))))

    implicit_arg_good : (l : Mark) → Good (BracedArg l) (λ j. implicit_arg text j (expr text j) l) 0 n
    unfolding implicit_arg
    implicit_arg_good l = weaken _ _ _ 0 n (λ y cs r. let w = r.second in (
      Braced l r.first.derivation w.value,
      w.second.0 ∙ ap (a.Implicit (joined l.place w.value.place)) r.first.gives,
      record { at = (in_front (tok k.BraceOpen l) (both r.whole r.first.spells (both w.whole (single k.BraceClose _ _ w.first) (nothing _ w.second.1)))).at },
    ))
        (bind_good _ _ _ _ 0 n goodi (λ v. bind_good _ _ _ _ 0 n (expect_good k.BraceClose 0 n) (λ r. pure_good (a.Implicit (joined l.place r.place) v) 0 n)))

    project_good : (o : Mark) → Good (AsBehind argument_then (argument_tree text) k.Dot o) (λ j. project_arg text j (expr text j) o) 0 n
    unfolding project_arg
    project_good o = choose_good (is k.Name) _ _ _ 0 n
        (weaken _ _ _ 0 n (λ y cs r. (Projected o r.value, r.second.0, record { at = (in_front (tok k.Dot o) (both r.whole (single k.Name _ _ r.first) (nothing _ r.second.1))).at }))
        (bind_good _ _ _ _ 0 n (expect_good k.Name 0 n) (λ x. pure_good (a.Project (joined o.place x.place) (name_of text x)) 0 n)))
        (weaken _ _ _ 0 n (λ y cs r. (ProjectedQualified o r.value, r.second.0, record { at = (in_front (tok k.Dot o) (both r.whole (single k.Qualified _ _ r.first) (nothing _ r.second.1))).at }))
        (bind_good _ _ _ _ 0 n (expect_good k.Qualified 0 n) (λ x. pure_good (a.ProjectQualified (joined o.place x.place) (name_of text x)) 0 n)))

    module _ (eatsi : left_eats (expr text) 0 n) where
      named_up : (l : Mark) (xs : List Mark) (u : Input) → next_is (is k.Name) u ≡ false → length (lined (tok k.Name) xs u) < 0 + n → equals_follows (lined (tok k.Name) xs u) ≡ true → UpTo (length u) (named_arg text n (expr text n) l (lined (tok k.Name) xs u))
      unfolding named_arg name expect one same_kind
      named_up l [] u st lt is_so = good_up _ _ 0 n (named_arg_good l) (length u) u lt (omega arith)
      named_up l (x ∷ []) u st lt is_so = good_up _ _ 0 n
          (bind_good _ _ _ _ 0 n (expect_good k.Equals 0 n) (λ _. bind_good _ _ _ _ 0 n goodi (λ v. bind_good _ _ _ _ 0 n (expect_good k.BraceClose 0 n) (λ r. pure_good (a.Named (joined l.place r.place) (name_of text x) v) 0 n))))
          (length u) u (omega arith) (omega arith)
      named_up l (x ∷ y ∷ ys) u st lt is_so = absurd cc

      implicit_up : (l : Mark) (xs : List Mark) (u : Input) → next_is (is k.Name) u ≡ false → length (lined (tok k.Name) xs u) < 0 + n → equals_follows (lined (tok k.Name) xs u) ≡ false → UpTo (length u) (implicit_arg text n (expr text n) l (lined (tok k.Name) xs u))
      unfolding implicit_arg
      implicit_up l xs u st lt not_so = bind_up (length u) (expr text n (lined (tok k.Name) xs u)) _ (eatsi xs u st lt) (λ v ts le. good_up _ _ 0 n
          (bind_good _ _ _ _ 0 n (expect_good k.BraceClose 0 n) (λ r. pure_good (a.Implicit (joined l.place r.place) v) 0 n)) (length u) ts (omega (arith, lined_longer (tok k.Name) xs u)) le)

      braced_arg_good : (l : Mark) → Good (BracedArg l) (λ j. braced_arg text j (expr text j) l) 0 n
      unfolding braced_arg
      braced_arg_good l = look_good (is k.Name) (tok k.Name) name_is equals_follows over_equals (BracedArg l) (λ j. named_arg text j (expr text j) l) (λ j. implicit_arg text j (expr text j) l) 0 n
          (named_arg_good l) (implicit_arg_good l) (named_up l) (implicit_up l)

      arg_good : Good IsArgument (λ j. arg text j (expr text j)) 1 n
      unfolding arg
      arg_good =
          choose_good (is k.BraceOpen) IsArgument _ _ 1 n (weaken _ _ _ 1 n (of_parts argument_then (argument_tree text) k.BraceOpen) (after_sign k.BraceOpen _ _ n braced_arg_good))
          (choose_good (is k.Dot) IsArgument _ _ 1 n (weaken _ _ _ 1 n (of_parts argument_then (argument_tree text) k.Dot) (after_sign k.Dot _ _ n project_good))
          (choose_good (is k.ParenOpen) IsArgument _ _ 1 n
          (weaken _ _ _ 1 n (λ y cs r. let p = r.second.first.derivation in record {
            derivation = Plain (Paren r.value p.0 p.1);
            gives = r.second.second.0 ∙ ap a.Plain r.second.first.gives;
            spells = record { at = (both r.whole (single k.ParenOpen _ _ r.first) (both r.second.whole r.second.first.spells (nothing _ r.second.second.1))).at };
          }) (after_sign k.ParenOpen _ _ n (λ _. bind_good _ _ _ _ 0 n paren_after_good (λ x. pure_good (a.Plain x) 0 n))))
          (weaken _ _ _ 1 n (λ y cs r. record {
            derivation = Plain r.first.derivation;
            gives = r.second.0 ∙ ap a.Plain r.first.gives;
            spells = record { at = (both r.whole r.first.spells (nothing _ r.second.1)).at };
          }) (bind_good _ _ _ _ 1 n simple_good (λ x. pure_good (a.Plain x) 1 n)))))

      atom_long : (d : Atom) → 0 < length (atom_then d [])
      atom_long (Named x) = omega arith
      atom_long (Qualified x) = omega arith
      atom_long (Level x) = omega arith
      atom_long (Hole x) = omega arith
      atom_long (Blank x) = omega arith
      atom_long (Paren l d r) = omega arith
      atom_long (Record w l fs r) = omega arith

      argument_long : (d : Argument) → 0 < length (argument_then d [])
      argument_long (Plain x) = atom_long x
      argument_long (Braced l d r) = omega arith
      argument_long (Equated l x o d r) = omega arith
      argument_long (Projected o x) = omega arith
      argument_long (ProjectedQualified o x) = omega arith

      one_arg_good : (found : List Arg) → Good (Item (λ _. IsArgument) found) (λ j. one_arg text j (expr text j)) 1 n
      unfolding one_arg
      one_arg_good found = optional_good begins_arg (λ _. IsArgument) found (λ j. arg text j (expr text j)) 1 n arg_good (long_as _ _ argument_long)

      args_good : (found : List Arg) → Good (Behind (λ _. IsArgument) found) (λ j. args text j (expr text j) found) 1 n
      unfolding args one_arg
      args_good found = many_good (λ _. IsArgument) (λ j _. one_arg text j (expr text j)) 1 n one_arg_good (λ m f. refl) (omega arith) found

      all_args : (found xs : List Arg) (c : Input) → AllOf (λ _. IsArgument) found xs c → As arguments_then (arguments_tree text) xs c
      all_args = all_of argument_then (argument_tree text) arguments_then (arguments_tree text) NoArgument More (λ rest. refl) refl (λ d ds rest. refl) (λ d ds. refl)

      -- ---- applications and arrows

      abbrev IsTail : Expr → Language Sign Expr
      IsTail left = As tail_then (tail_tree left)

      tail_good : (left : Expr) → Good (IsTail left) (λ j. arrow_tail text j (expr text j) left) 1 n
      unfolding arrow_tail
      tail_good left = choose_good (is k.Arrow) (IsTail left) _ _ 1 n
          (weaken _ _ _ 1 n (λ y cs r. let d = r.second in record {
            derivation = ArrowTail r.value d.first.derivation;
            gives = d.second.0 ∙ (λ i. e.Arrow (joined (expr_place left) (expr_place (d.first.gives i))) left (d.first.gives i));
            spells = record { at = (both r.whole (single k.Arrow _ _ r.first) (both d.whole d.first.spells (nothing _ d.second.1))).at };
          }) (after_sign k.Arrow _ _ n (λ _. bind_good _ _ _ _ 0 n goodi (λ right. pure_good (e.Arrow (joined (expr_place left) (expr_place right)) left right) 0 n))))
          (weaken _ _ _ 1 n (λ y cs r. record { derivation = NoTail; gives = r.0; spells = record { at = (nothing _ r.1).at } }) (pure_good left 1 n))

      abbrev AppFrom : Expr → Language Sign Expr
      AppFrom head = As (λ (p : Arguments × Tail). λ rest. arguments_then p.0 (tail_then p.1 rest)) (λ p. tail_tree (applied head (arguments_tree text p.0)) p.1)

      app_from_good : (head : Expr) → Good (AppFrom head) (λ j. app_from text j (expr text j) head) 1 n
      unfolding app_from
      app_from_good head = weaken _ _ _ 1 n (λ y cs r. let xs = all_args [] r.first.more r.front r.first.each in record {
        derivation = (xs.derivation, r.second.derivation);
        gives = r.second.gives ∙ ap (λ (ys : List Arg). tail_tree (applied head ys) r.second.derivation) (r.first.is ∙ xs.gives);
        spells = record { at = (both r.whole xs.spells r.second.spells).at };
      })
          (bind_good _ _ _ _ 1 n (args_good []) (λ xs. tail_good (applied head xs)))

      args_eat : (m : ℕ) (found : List Arg) (xs : List Mark) (u : Input) → length (lined (tok k.Name) xs u) ≤ m → length (lined (tok k.Name) xs u) < 1 + n → next_is (is k.Name) u ≡ false → UpTo (length u) (many_from (λ _. one_arg text n (expr text n)) m found (lined (tok k.Name) xs u))
      unfolding many_from one_arg arg simple_atom begins_atom expect one same_kind
      args_eat m found [] u le lt st = turns_up (λ _. IsArgument) (λ j _. one_arg text j (expr text j)) 1 n one_arg_good (λ m f. refl) m found u (length u) le lt (omega arith)
      args_eat zero found (x ∷ xs) u le lt st = absurd (omega arith)
      args_eat (suc m) found (x ∷ xs) u le lt st = args_eat m (found ++ a.Plain (e.Name (name_of text x)) ∷ []) xs u (omega arith) (omega arith) st

      app_from_eats : (head : Expr) → left_eats (λ j. app_from text j (expr text j) head) 1 n
      unfolding app_from args
      app_from_eats head xs u st lt = bind_up (length u) (many_from (λ _. one_arg text n (expr text n)) n [] (lined (tok k.Name) xs u)) _ (args_eat n [] xs u (omega arith) lt st)
          (λ ys ts le. good_up _ _ 1 n (tail_good (applied head ys)) (length u) ts (omega (arith, lined_longer (tok k.Name) xs u)) le)

      -- ---- what follows a parenthesis

      abbrev AfterParen : Mark → Language Sign Expr
      AfterParen l = AsBehind then (tree text) k.ParenOpen l

      binder_side : (l : Mark) → Good (AfterParen l) (λ j. typed_after text j (expr text j) Round l >>= pi_from text j (expr text j)) 0 n
      binder_side l = weaken _ _ _ 0 n (λ y cs r. let p = r.first.derivation in let t = Typing Round l p.0 p.1 p.2 p.3 p.4 in let w = r.second.derivation in (
        Pi t w.0 w.1 w.2,
        r.second.gives ∙ ap (λ (x : Binder). e.Pi (joined (binder_place x) (expr_place (tree text w.2))) (x ∷ more_typed_tree text w.0) (tree text w.2)) r.first.gives,
        record { at = (in_front (tok k.ParenOpen l) (both r.whole r.first.spells r.second.spells)).at },
      ))
          (bind_good _ _ _ _ 0 n (typed_after_good Round l) pi_from_good)

      atom_side : (l : Mark) → Good (AfterParen l) (λ j. paren_after text j (expr text j) >>= app_from text j (expr text j)) 0 n
      atom_side l = weaken _ _ _ 0 n (λ y cs r. let p = r.first.derivation in let w = r.second.derivation in let x : Atom = Paren l p.0 p.1 in (
        finished x w.0 w.1,
        r.second.gives ∙ ap (λ (h : Expr). tail_tree (applied h (arguments_tree text w.0)) w.1) r.first.gives ∙ sym (finished_tree x w.0 w.1),
        record { at = λ rest. finished_then x w.0 w.1 rest ∙ (in_front (tok k.ParenOpen l) (both r.whole r.first.spells r.second.spells)).at rest },
      ))
          (bind_good _ _ _ _ 0 n paren_after_good (λ x. shorten _ _ n (app_from_good x)))

      typed_after_eats : (c : Bracket) (l : Mark) → left_eats (λ j. typed_after text j (expr text j) c l) 0 n
      unfolding typed_after typed_from names name expect one same_kind
      typed_after_eats c l [] u st lt = good_up _ _ 0 n (typed_after_good c l) (length u) u lt (omega arith)
      typed_after_eats c l (x ∷ xs) u st lt = bind_up (length u) (many_from (λ _. one_name text) n (name_of text x ∷ []) (lined (tok k.Name) xs u)) _ (names_up text n (name_of text x ∷ []) xs u (omega (arith, lined_count xs u)) st)
          (λ ys ts le. good_up _ _ 0 n (bind_good _ _ _ _ 0 n (expect_good k.Colon 0 n) (λ _. bind_good _ _ _ _ 0 n goodi (λ ty. bind_good _ _ _ _ 0 n (expect_good (close_of c) 0 n) (λ r. pure_good (typed_binder c (joined l.place r.place) ys ty) 0 n))))
          (length u) ts (omega (arith, lined_longer (tok k.Name) xs u)) le)

      binder_side_up : (l : Mark) (xs : List Mark) (u : Input) → next_is (is k.Name) u ≡ false → length (lined (tok k.Name) xs u) < 0 + n → colon_follows (lined (tok k.Name) xs u) ≡ true → UpTo (length u) ((typed_after text n (expr text n) Round l >>= pi_from text n (expr text n)) (lined (tok k.Name) xs u))
      binder_side_up l xs u st lt is_so = bind_up (length u) (typed_after text n (expr text n) Round l (lined (tok k.Name) xs u)) _ (typed_after_eats Round l xs u st lt)
          (λ x ts le. good_up _ _ 0 n (pi_from_good x) (length u) ts (omega (arith, lined_longer (tok k.Name) xs u)) le)

      atom_side_up : (l : Mark) (xs : List Mark) (u : Input) → next_is (is k.Name) u ≡ false → length (lined (tok k.Name) xs u) < 0 + n → colon_follows (lined (tok k.Name) xs u) ≡ false → UpTo (length u) ((paren_after text n (expr text n) >>= app_from text n (expr text n)) (lined (tok k.Name) xs u))
      unfolding paren_after
      atom_side_up l xs u st lt not_so = bind_up (length u) (paren_after text n (expr text n) (lined (tok k.Name) xs u)) _
          (bind_up (length u) (expr text n (lined (tok k.Name) xs u)) _ (eatsi xs u st lt)
          (λ x ts le. good_up _ _ 0 n (bind_good _ _ _ _ 0 n (expect_good k.ParenClose 0 n) (λ _. pure_good x 0 n)) (length u) ts (omega (arith, lined_longer (tok k.Name) xs u)) le))
          (λ x ts le. good_up _ _ 1 n (app_from_good x) (length u) ts (omega (arith, lined_longer (tok k.Name) xs u)) le)

      after_paren_good : (l : Mark) → Good (AfterParen l) (λ j. after_paren text j (expr text j) l) 0 n
      unfolding after_paren
      after_paren_good l = look_good (is k.Name) (tok k.Name) name_is colon_follows over_colon (AfterParen l) (λ j. typed_after text j (expr text j) Round l >>= pi_from text j (expr text j)) (λ j. paren_after text j (expr text j) >>= app_from text j (expr text j)) 0 n
          (binder_side l) (atom_side l) (binder_side_up l) (atom_side_up l)

      -- ---- binders of `∀` and `λ`

      abbrev BracedFrom : Mark → Name → Language Sign Binder
      BracedFrom l x y cs = ((r : Mark) × (y ≡ b.Braced (joined l.place r.place) x) × Spells (λ rest. tok k.BraceClose r ∷ rest) cs) ⊎ TypedFrom Curly l x y cs

      braced_from_good : (l : Mark) (x : Name) → Good (BracedFrom l x) (λ j. braced_from text j (expr text j) l x) 0 n
      unfolding braced_from
      braced_from_good l x = choose_good (is k.BraceClose) (BracedFrom l x) _ _ 0 n
          (weaken _ _ _ 0 n (λ y cs r. inl (r.value, r.second.0, record { at = (both r.whole (single k.BraceClose _ _ r.first) (nothing _ r.second.1)).at })) (bind_good _ _ _ _ 0 n (expect_good k.BraceClose 0 n) (λ r. pure_good (b.Braced (joined l.place r.place) x) 0 n)))
          (weaken _ _ _ 0 n (λ y cs r. inr r) (typed_from_good Curly l x))

      abbrev IsBound : Language Sign Binder
      IsBound = As bound_then (bound_tree text)

      of_braced : (y : Binder) (cs : Input) → Seq (Is k.BraceOpen) (λ l. Seq (IsName text) (λ x. BracedFrom l x)) y cs → IsBound y cs
      of_braced y cs r = go r.second.second
        where
          go : BracedFrom r.value r.second.value y r.second.back → IsBound y cs
          go (inl w) = record {
            derivation = BoundBraced r.value r.second.first.derivation w.0;
            gives = w.1 ∙ ap (b.Braced (joined r.value.place w.0.place)) r.second.first.gives;
            spells = record { at = (both r.whole (single k.BraceOpen _ _ r.first) (both r.second.whole r.second.first.spells w.2)).at };
          }
          go (inr w) = let p = w.derivation in record {
            derivation = BoundTyped (Typing Curly r.value r.second.first.derivation p.0 p.1 p.2 p.3);
            gives = w.gives ∙ ap (λ (x : Name). typed_binder Curly (joined r.value.place p.3.place) (x ∷ map (name_of text) p.0) (tree text p.2)) r.second.first.gives;
            spells = record { at = (both r.whole (single k.BraceOpen _ _ r.first) (both r.second.whole r.second.first.spells w.spells)).at };
          }

      bound_good : Good IsBound (λ j. bound text j (expr text j)) 1 n
      unfolding bound
      bound_good =
          choose_good (is k.BraceOpen) IsBound _ _ 1 n (weaken _ _ _ 1 n of_braced (after_sign k.BraceOpen _ _ n (λ l. bind_good _ _ _ _ 0 n (name_good text 0 n) (λ x. braced_from_good l x))))
          (choose_good (is k.ParenOpen) IsBound _ _ 1 n
          (weaken _ _ _ 1 n (λ y cs r. let t = of_after Round y cs r in record { derivation = BoundTyped t.derivation; gives = t.gives; spells = record { at = t.spells.at } }) (after_sign k.ParenOpen _ _ n (λ l. typed_after_good Round l)))
          (weaken _ _ _ 1 n (λ y cs r. record {
            derivation = BoundName r.first.derivation;
            gives = r.second.0 ∙ ap b.Name r.first.gives;
            spells = record { at = (both r.whole r.first.spells (nothing _ r.second.1)).at };
          }) (bind_good _ _ _ _ 1 n (name_good text 1 n) (λ x. pure_good (b.Name x) 1 n))))

      abbrev IsLambdaBound : Language Sign Binder
      IsLambdaBound = As lambda_bound_then (lambda_bound_tree text)

      lambda_bound_good : Good IsLambdaBound (λ j. lambda_bound text j (expr text j)) 1 n
      unfolding lambda_bound
      lambda_bound_good =
          choose_good (is k.Underscore) IsLambdaBound _ _ 1 n
          (weaken _ _ _ 1 n (λ y cs r. record { derivation = BoundBlank r.value; gives = r.second.0; spells = record { at = (both r.whole (single k.Underscore _ _ r.first) (nothing _ r.second.1)).at } })
          (bind_good _ _ _ _ 1 n (expect_good k.Underscore 1 n) (λ x. pure_good (b.Underscore x.place) 1 n)))
          (weaken _ _ _ 1 n (λ y cs r. record { derivation = BoundAs r.derivation; gives = r.gives; spells = record { at = r.spells.at } }) bound_good)

      bound_long : (d : Bound) → 0 < length (bound_then d [])
      bound_long (BoundName x) = omega arith
      bound_long (BoundBraced l x r) = omega arith
      bound_long (BoundTyped x) = typed_long x

      lambda_bound_long : (d : LambdaBound) → 0 < length (lambda_bound_then d [])
      lambda_bound_long (BoundBlank x) = omega arith
      lambda_bound_long (BoundAs x) = bound_long x

      all_good : (found : List Binder) → Good (Behind (λ _. IsBound) found) (λ j. binders text j (expr text j) q.All found) 0 n
      unfolding binders one_binder binder
      all_good found = many_good (λ _. IsBound) (λ j _. one_binder text j (expr text j) q.All) 0 n
          (λ f. optional_good begins_bound (λ _. IsBound) f (λ j. bound text j (expr text j)) 0 n (shorten _ _ n bound_good) (long_as _ _ bound_long)) (λ m f. refl) (omega arith) found

      lambda_good : (found : List Binder) → Good (Behind (λ _. IsLambdaBound) found) (λ j. binders text j (expr text j) q.Lambda found) 0 n
      unfolding binders one_binder binder
      lambda_good found = many_good (λ _. IsLambdaBound) (λ j _. one_binder text j (expr text j) q.Lambda) 0 n
          (λ f. optional_good (begins_binder q.Lambda) (λ _. IsLambdaBound) f (λ j. lambda_bound text j (expr text j)) 0 n (shorten _ _ n lambda_bound_good) (long_as _ _ lambda_bound_long)) (λ m f. refl) (omega arith) found

      all_bound : (found xs : List Binder) (c : Input) → AllOf (λ _. IsBound) found xs c → As more_bound_then (more_bound_tree text) xs c
      all_bound = all_of bound_then (bound_tree text) more_bound_then (more_bound_tree text) LastBound NextBound (λ rest. refl) refl (λ d ds rest. refl) (λ d ds. refl)

      all_lambda_bound : (found xs : List Binder) (c : Input) → AllOf (λ _. IsLambdaBound) found xs c → As more_lambda_bound_then (more_lambda_bound_tree text) xs c
      all_lambda_bound = all_of lambda_bound_then (lambda_bound_tree text) more_lambda_bound_then (more_lambda_bound_tree text) LastLambdaBound NextLambdaBound (λ rest. refl) refl (λ d ds rest. refl) (λ d ds. refl)

      forall_good : Good Derives (λ j. quantified text j (expr text j) q.All) 1 n
      unfolding quantified binder
      forall_good = weaken _ _ _ 1 n (λ y cs r. let x = r.second in let xs = x.second in let w = xs.second in let d = w.second in
          let more = all_bound (x.value ∷ []) xs.first.more xs.front xs.first.each in record {
            derivation = Forall r.value x.first.derivation more.derivation w.value d.first.derivation;
            gives = d.second.0 ∙ (λ i. e.Forall (joined r.value.place (expr_place d.value)) (xs.first.is i) d.value) ∙ (λ i. e.Forall (joined r.value.place (expr_place (d.first.gives i))) (x.first.gives i ∷ more.gives i) (d.first.gives i));
            spells = record { at = (both r.whole (single k.All _ _ r.first) (both x.whole x.first.spells (both xs.whole more.spells (both w.whole (single k.Arrow _ _ w.first) (both d.whole d.first.spells (nothing _ d.second.1)))))).at };
          })
          (after_sign k.All _ _ n (λ m. bind_good _ _ _ _ 0 n (shorten _ _ n bound_good) (λ x. bind_good _ _ _ _ 0 n (all_good (x ∷ [])) (λ xs. bind_good _ _ _ _ 0 n (expect_good k.Arrow 0 n)
          (λ _. bind_good _ _ _ _ 0 n goodi (λ body. pure_good (e.Forall (joined m.place (expr_place body)) xs body) 0 n))))))

      lambdas_good : Good Derives (λ j. quantified text j (expr text j) q.Lambda) 1 n
      unfolding quantified binder
      lambdas_good = weaken _ _ _ 1 n (λ y cs r. let x = r.second in let xs = x.second in let w = xs.second in let d = w.second in
          let more = all_lambda_bound (x.value ∷ []) xs.first.more xs.front xs.first.each in record {
            derivation = Lambda r.value x.first.derivation more.derivation w.value d.first.derivation;
            gives = d.second.0 ∙ (λ i. e.Lambda (joined r.value.place (expr_place d.value)) (xs.first.is i) d.value) ∙ (λ i. e.Lambda (joined r.value.place (expr_place (d.first.gives i))) (x.first.gives i ∷ more.gives i) (d.first.gives i));
            spells = record { at = (both r.whole (single k.Lambda _ _ r.first) (both x.whole x.first.spells (both xs.whole more.spells (both w.whole (single k.Arrow _ _ w.first) (both d.whole d.first.spells (nothing _ d.second.1)))))).at };
          })
          (after_sign k.Lambda _ _ n (λ m. bind_good _ _ _ _ 0 n (shorten _ _ n lambda_bound_good) (λ x. bind_good _ _ _ _ 0 n (lambda_good (x ∷ [])) (λ xs. bind_good _ _ _ _ 0 n (expect_good k.Arrow 0 n)
          (λ _. bind_good _ _ _ _ 0 n goodi (λ body. pure_good (e.Lambda (joined m.place (expr_place body)) xs body) 0 n))))))

      -- ---- an expression

      of_curly : (y : Expr) (cs : Input) → Seq (Is k.BraceOpen) (λ l. Seq (TypedAfter Curly l) PiFrom) y cs → Derives y cs
      of_curly y cs r = let s = r.second in let p = s.first.derivation in let w = s.second.derivation in record {
        derivation = Pi (Typing Curly r.value p.0 p.1 p.2 p.3 p.4) w.0 w.1 w.2;
        gives = s.second.gives ∙ ap (λ (x : Binder). e.Pi (joined (binder_place x) (expr_place (tree text w.2))) (x ∷ more_typed_tree text w.0) (tree text w.2)) s.first.gives;
        spells = record { at = (both r.whole (single k.BraceOpen _ _ r.first) (both s.whole s.first.spells s.second.spells)).at };
      }

      of_simple : (y : Expr) (cs : Input) → Seq IsAtom AppFrom y cs → Derives y cs
      of_simple y cs r = let x = r.first.derivation in let w = r.second.derivation in record {
        derivation = finished x w.0 w.1;
        gives = r.second.gives ∙ ap (λ (h : Expr). tail_tree (applied h (arguments_tree text w.0)) w.1) r.first.gives ∙ sym (finished_tree x w.0 w.1);
        spells = record { at = λ rest. finished_then x w.0 w.1 rest ∙ (both r.whole r.first.spells r.second.spells).at rest };
      }

      pub level_good : Good Derives (λ j. level text j (expr text j)) 1 n
      unfolding level
      level_good =
          choose_good (is k.ParenOpen) Derives _ _ 1 n (weaken _ _ _ 1 n (of_parts then (tree text) k.ParenOpen) (after_sign k.ParenOpen _ _ n after_paren_good))
          (choose_good (is k.BraceOpen) Derives _ _ 1 n (weaken _ _ _ 1 n of_curly (after_sign k.BraceOpen _ _ n (λ l. bind_good _ _ _ _ 0 n (typed_after_good Curly l) pi_from_good)))
          (choose_good (is k.All) Derives _ _ 1 n forall_good
          (choose_good (is k.Lambda) Derives _ _ 1 n lambdas_good
          (weaken _ _ _ 1 n of_simple (bind_good _ _ _ _ 1 n simple_good app_from_good)))))

      pub level_eats : left_eats (λ j. level text j (expr text j)) 1 n
      unfolding level simple_atom expect one same_kind
      level_eats [] u st lt = good_up _ _ 1 n level_good (length u) u lt (omega arith)
      level_eats (x ∷ xs) u st lt = app_from_eats (e.Name (name_of text x)) xs u st (omega arith)

-- with each number of turns
module _ (text : List ℕ) where
  a_name : Derivation
  a_name = App (Named (record { place = record { span = record { start = 0; end = 0 }; pos = record { line = 0; col = 0 } }; level = 0 })) NoArgument

  a_word : As then (tree text) (tree text a_name) (then a_name [])
  unfolding a_name
  a_word = record { derivation = a_name; gives = refl; spells = record { at = λ rest. refl } }

  record Sound (n : ℕ) : Type 0 where
    pub good : Good (Derives text) (expr text) 0 n
    pub eats : left_eats (expr text) 0 n

  sound : (n : ℕ) → Sound n
  unfolding expr
  sound zero = record { good = record { at = λ ts lt. absurd (omega arith); word = record { value = tree text a_name; tokens = then a_name []; reads = a_word } }; eats = λ xs u st lt. absurd (omega arith) }
  sound (suc n) = let h = sound n in record {
    good = deeper_good (Derives text) (λ j. level text j (expr text j)) (expr text) n (λ m ts. refl) (level_good text n h.good h.eats);
    eats = λ xs u st lt. level_eats text n h.good h.eats xs u st (omega arith);
  }

  pub expr_good : (n : ℕ) → Good (Derives text) (expr text) 0 n
  expr_good n = (sound n).good

  pub expr_eats : (n : ℕ) → left_eats (expr text) 0 n
  expr_eats n = (sound n).eats
