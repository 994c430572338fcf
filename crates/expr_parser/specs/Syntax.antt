-- The parser of expressions by descent, as a function on lists. The number of turns that a list gives rise to is bounded by that of its signs.
use Rattle.std.specs.Prelude.{ℕ, zero, suc, Bool, true, if◌then◌else◌, List, [], ◌∷◌, length, Option, Err}
use Rattle.source_tree.specs.declared.place.Name.{Name}
use Rattle.source_tree.specs.declared.expr.Expr.{Expr}
use Rattle.source_tree.specs.declared.expr.Expr.TheVariants as e
use Rattle.source_tree.specs.declared.expr.Arg.{Arg}
use Rattle.source_tree.specs.declared.expr.Arg.TheVariants as a
use Rattle.source_tree.specs.declared.expr.Binder.{Binder}
use Rattle.source_tree.specs.declared.expr.Binder.TheVariants as b
use Rattle.source_tree.specs.declared.expr.FieldValue.{FieldValue}
use Rattle.source_tree.specs.Places.{joined, expr_place, binder_place}
use Rattle.agda_grammar.specs.declared.sign.Kind.{Kind}
use Rattle.agda_grammar.specs.declared.sign.Kind.TheVariants as k
use Rattle.agda_grammar.specs.declared.sign.Mark.{Mark}
use Rattle.agda_grammar.specs.declared.sign.Sign.{Sign}
use Rattle.agda_grammar.specs.declared.bracket.Bracket.{Bracket}
use Rattle.agda_grammar.specs.declared.bracket.Bracket.TheVariants.{Round, Curly}
use Rattle.expr_parser.specs.declared.quantifier.Quantifier.{Quantifier}
use Rattle.expr_parser.specs.declared.quantifier.Quantifier.TheVariants as q
use Rattle.agda_grammar.specs.Names.{name_of}
use Rattle.agda_grammar.specs.Trees.{close_of, typed_binder, applied}
use Rattle.expr_parser.specs.Cursor.{is, expect, begins_atom, colon_follows, equals_follows}
use Rattle.parse_laws.specs.Parser.{Parser, ◌>>=◌, ◌>>◌, pure, choose, optional, many_from, ended}

abbrev pub begins_typed : Sign → Bool
begins_typed s = if is k.ParenOpen s then true else is k.BraceOpen s

abbrev pub begins_arg : Sign → Bool
begins_arg s = if is k.BraceOpen s then true else (if is k.Dot s then true else (if is k.ParenOpen s then true else begins_atom s.kind))

abbrev pub begins_bound : Sign → Bool
begins_bound s = if is k.BraceOpen s then true else (if is k.ParenOpen s then true else is k.Name s)

abbrev pub begins_binder : Quantifier → Sign → Bool
begins_binder q.All s = begins_bound s
begins_binder q.Lambda s = if is k.Underscore s then true else begins_bound s

abbrev pub quantifier_kind : Quantifier → Kind
quantifier_kind q.All = k.All
quantifier_kind q.Lambda = k.Lambda

abbrev pub quantified_tree : Quantifier → Mark → List Binder → Expr → Expr
quantified_tree q.All m bs body = e.Forall (joined m.place (expr_place body)) bs body
quantified_tree q.Lambda m bs body = e.Lambda (joined m.place (expr_place body)) bs body

module _ (text : List ℕ) where
  unfoldable pub name : Parser Sign Name
  name = do
    x ← expect k.Name
    pure (name_of text x)

  -- names while they come, after those found
  unfoldable pub one_name : Parser Sign (Option Name)
  one_name = optional (is k.Name) name

  unfoldable pub names : ℕ → List Name → Parser Sign (List Name)
  names turns found = many_from (λ _. one_name) turns found

  -- The parameters bound the turns, and read an expression with fewer of them.
  module _ (turns : ℕ) (inner : Parser Sign Expr) where
    -- after the bracket and the first name of a typed binder
    unfoldable pub typed_from : Bracket → Mark → Name → Parser Sign Binder
    typed_from c l x = do
      xs ← names turns (x ∷ [])
      expect k.Colon
      ty ← inner
      r ← expect (close_of c)
      pure (typed_binder c (joined l.place r.place) xs ty)

    unfoldable pub typed_after : Bracket → Mark → Parser Sign Binder
    typed_after c l = name >>= typed_from c l

    unfoldable pub typed : Parser Sign Binder
    typed = choose (is k.ParenOpen) (expect k.ParenOpen >>= typed_after Round) (expect k.BraceOpen >>= typed_after Curly)

    unfoldable pub one_typed : Parser Sign (Option Binder)
    one_typed = optional begins_typed typed

    unfoldable pub more_typed : List Binder → Parser Sign (List Binder)
    more_typed found = many_from (λ _. one_typed) turns found

    -- after the first binder of a function type
    unfoldable pub pi_from : Binder → Parser Sign Expr
    pi_from x = do
      xs ← more_typed (x ∷ [])
      expect k.Arrow
      body ← inner
      pure (e.Pi (joined (binder_place x) (expr_place body)) xs body)

    -- after a parenthesis that opens no binder
    unfoldable pub paren_after : Parser Sign Expr
    paren_after = do
      x ← inner
      expect k.ParenClose
      pure x

    unfoldable pub field : Parser Sign FieldValue
    field = do
      x ← name
      expect k.Equals
      v ← inner
      pure (record { name = x; value = v })

    unfoldable pub one_field : Parser Sign (Option FieldValue)
    one_field = optional (is k.Semicolon) (expect k.Semicolon >> field)

    unfoldable pub more_fields : List FieldValue → Parser Sign (List FieldValue)
    more_fields found = many_from (λ _. one_field) turns found

    unfoldable pub fields : Parser Sign (List FieldValue)
    fields = choose (is k.Name) (field >>= (λ x. more_fields (x ∷ []))) (pure [])

    unfoldable pub record_atom : Parser Sign Expr
    record_atom = do
      w ← expect k.Record
      expect k.BraceOpen
      fs ← fields
      r ← expect k.BraceClose
      pure (e.Record (joined w.place r.place) fs)

    -- an atom without parentheses around it
    unfoldable pub simple_atom : Parser Sign Expr
    simple_atom =
        choose (is k.Name) (expect k.Name >>= (λ x. pure (e.Name (name_of text x))))
        (choose (is k.Qualified) (expect k.Qualified >>= (λ x. pure (e.Qualified (name_of text x))))
        (choose (is k.SetLevel) (expect k.SetLevel >>= (λ x. pure (e.SetLevel x.place x.level)))
        (choose (is k.Hole) (expect k.Hole >>= (λ x. pure (e.Hole x.place)))
        (choose (is k.Underscore) (expect k.Underscore >>= (λ x. pure (e.Underscore x.place)))
        record_atom))))

    unfoldable pub named_arg : Mark → Parser Sign Arg
    named_arg l = do
      x ← name
      expect k.Equals
      v ← inner
      r ← expect k.BraceClose
      pure (a.Named (joined l.place r.place) x v)

    unfoldable pub implicit_arg : Mark → Parser Sign Arg
    implicit_arg l = do
      v ← inner
      r ← expect k.BraceClose
      pure (a.Implicit (joined l.place r.place) v)

    unfoldable pub braced_arg : Mark → Parser Sign Arg
    braced_arg l = λ i. if equals_follows i then named_arg l i else implicit_arg l i

    unfoldable pub project_arg : Mark → Parser Sign Arg
    project_arg o =
        choose (is k.Name) (expect k.Name >>= (λ x. pure (a.Project (joined o.place x.place) (name_of text x))))
        (expect k.Qualified >>= (λ x. pure (a.ProjectQualified (joined o.place x.place) (name_of text x))))

    unfoldable pub arg : Parser Sign Arg
    arg =
        choose (is k.BraceOpen) (expect k.BraceOpen >>= braced_arg)
        (choose (is k.Dot) (expect k.Dot >>= project_arg)
        (choose (is k.ParenOpen) (expect k.ParenOpen >> (paren_after >>= (λ x. pure (a.Plain x))))
        (simple_atom >>= (λ x. pure (a.Plain x)))))

    unfoldable pub one_arg : Parser Sign (Option Arg)
    one_arg = optional begins_arg arg

    unfoldable pub args : List Arg → Parser Sign (List Arg)
    args found = many_from (λ _. one_arg) turns found

    unfoldable pub arrow_tail : Expr → Parser Sign Expr
    arrow_tail left = choose (is k.Arrow) (expect k.Arrow >> (inner >>= (λ right. pure (e.Arrow (joined (expr_place left) (expr_place right)) left right)))) (pure left)

    -- after the head of an application
    unfoldable pub app_from : Expr → Parser Sign Expr
    app_from head = args [] >>= (λ xs. arrow_tail (applied head xs))

    unfoldable pub after_paren : Mark → Parser Sign Expr
    after_paren l = λ i. if colon_follows i then (typed_after Round l >>= pi_from) i else (paren_after >>= app_from) i

    -- after the brace and the first name of a binder of `∀` or `λ`
    unfoldable pub braced_from : Mark → Name → Parser Sign Binder
    braced_from l x = choose (is k.BraceClose) (expect k.BraceClose >>= (λ r. pure (b.Braced (joined l.place r.place) x))) (typed_from Curly l x)

    unfoldable pub bound : Parser Sign Binder
    bound =
        choose (is k.BraceOpen) (expect k.BraceOpen >>= (λ l. name >>= braced_from l))
        (choose (is k.ParenOpen) (expect k.ParenOpen >>= typed_after Round)
        (name >>= (λ x. pure (b.Name x))))

    unfoldable pub lambda_bound : Parser Sign Binder
    lambda_bound = choose (is k.Underscore) (expect k.Underscore >>= (λ x. pure (b.Underscore x.place))) bound

    unfoldable pub binder : Quantifier → Parser Sign Binder
    binder q.All = bound
    binder q.Lambda = lambda_bound

    unfoldable pub one_binder : Quantifier → Parser Sign (Option Binder)
    one_binder c = optional (begins_binder c) (binder c)

    unfoldable pub binders : Quantifier → List Binder → Parser Sign (List Binder)
    binders c found = many_from (λ _. one_binder c) turns found

    unfoldable pub quantified : Quantifier → Parser Sign Expr
    quantified c = do
      m ← expect (quantifier_kind c)
      x ← binder c
      xs ← binders c (x ∷ [])
      expect k.Arrow
      body ← inner
      pure (quantified_tree c m xs body)

    unfoldable pub level : Parser Sign Expr
    level =
        choose (is k.ParenOpen) (expect k.ParenOpen >>= after_paren)
        (choose (is k.BraceOpen) (expect k.BraceOpen >>= (λ l. typed_after Curly l >>= pi_from))
        (choose (is k.All) (quantified q.All)
        (choose (is k.Lambda) (quantified q.Lambda)
        (simple_atom >>= app_from))))

  unfoldable pub expr : ℕ → Parser Sign Expr
  expr zero = λ i. Err (length i)
  expr (suc turns) = level turns (expr turns)

  -- an expression and nothing behind it
  unfoldable pub whole_expr : ℕ → Parser Sign Expr
  whole_expr turns = ended (expr turns)
