-- Left sides, pattern by pattern: what each form of pattern needs, and what it makes of the left side so far.
use Rattle.std.specs.Prelude.{ℕ, ◌+◌, cond, List, [], ◌∷◌, ◌++◌, length, reverse, take, Option, Some, None, zero, suc}
use Rattle.core_rules.specs.declared.Flag.{Flag}
use Rattle.core_rules.specs.declared.Flag.TheVariants.{Explicit, Implicit}
use Rattle.core_rules.specs.Term.{Term, Pi}
use Rattle.core_rules.specs.Substitution.{under}
use Rattle.core_rules.specs.Signature.{Entry, Telescope, Context, Branch, Origin, Inserted, Braces, CorePats, Pat, VarPat, ConPat, AbsurdPat, NoPat, AndPat, ConDecl, Signature, cons_of}
use Rattle.core_rules.specs.Signature as S
use Rattle.core_rules.specs.Elimination.{projections}
use Rattle.core_rules.specs.Heads.{Answer, Form, Bounded, Within, Out}
use Rattle.core_rules.specs.Typing.{entry}
use Rattle.core_rules.specs.Unification.{Equation}
use Rattle.core_rules.specs.UnifierAnswers.{Unified, UnifiedBy, NeverUnified, StuckAt, NoFuel, NoDepth}
use Rattle.core_rules.specs.TypedTree.{Splitting, con_context, index_equations}
use Rattle.kernel_rules.specs.Outcome.{Outcome, Gives, Refuses}
use Rattle.need_rules.specs.Needs.{Next, Plain, Named, Field, Need, OwnField, need}
use Rattle.need_rules.specs.Needs as needs
use Rattle.el_outside.specs.declared.place.Pos.{Pos}
use Rattle.lhs_rules.specs.Refusals.{Refusal, Kind, CannotSplit, UnifyStuck, NotAbsurd, WrongArity, NoSuchName, ForcedConstructor, Impossible, OutOfFuel, OutOfDepth, at}
use Rattle.lhs_rules.specs.Asking.{Is, AsksHead, AsksUnifier, Reads, ◌>>=◌, gives}
use Rattle.lhs_rules.specs.Spots.{Spot, AtVar, AtValue, SketchShape, Left, left_term, type_at, spot_at, index_of, name_by, inserted_by, taken, with_pat, projected, put}
use Rattle.lhs_rules.specs.Spots as spot
use Rattle.lhs_rules.specs.Families.{AtFamily, at_family, AtCon, at_con}

-- ---- what a pattern is to the left side

-- a pattern in the left side, and the left side with it
pub record Read : Type 0 where
  pub shape : SketchShape
  pub left : Left

abbrev pub reads : SketchShape → Left → Read
reads s l = record { shape = s; left = l }

-- at the spot of this number, in the left side so far
abbrev pub Visits : Type 0
Visits = ℕ → Left → Reads Read

-- a pattern without its braces: where it stands, where its variable comes from, and what is done there
pub record PatternMeaning : Type 0 where
  pub pos : Pos
  pub origin : Origin
  pub visits : Visits

-- a pattern with its braces, or a projection, at its place
pub record ElimMeaning : Type 0 where
  pub pos : Pos
  pub next : Next PatternMeaning

abbrev pub refused : {A : Type 0} → Pos → Kind → Reads A
refused p k = Is (Refuses (at p k))

-- ---- head forms

abbrev pub within : Pos → Bounded → Outcome Refusal Answer
within p (Within w n) = Gives w
within p Out = Refuses (at p OutOfFuel)

-- the head form of the type a, for the pattern at p
abbrev pub shows : Pos → Term → Reads Answer
shows p a = AsksHead a (λ b. Is (within p b))

-- ---- variables, underscores and dotted patterns: the variable that is there stays

abbrev pub stays : Visits
stays j l = gives (reads (VarPat j) l)

-- ---- constructors

-- what is written for an argument of a constructor, or that nothing is
pub record Slot : Type 0 where
  pub origin : Origin
  pub braces : Braces
  pub visits : Visits

abbrev pub braces_of : {E : Type 0} → Next E → Braces
braces_of (Plain e) = S.Without
braces_of (needs.Braces e) = S.Plain
braces_of (Named x e) = S.Named x
braces_of (Field f) = S.Without

abbrev pub written_slot : Braces → PatternMeaning → Slot
written_slot b w = record { origin = w.origin; braces = b; visits = w.visits }

abbrev pub unwritten_slot : Slot
unwritten_slot = record { origin = Inserted; braces = S.Plain; visits = stays }

abbrev pub with_slot : Slot → Outcome Refusal (List Slot) → Outcome Refusal (List Slot)
with_slot q (Gives qs) = Gives (q ∷ qs)
with_slot q (Refuses e) = Refuses e

-- what a binder needs of what is written next
abbrev pub binder_need : {E : Type 0} → Signature Term → Entry Term → Next E → Need E
binder_need g e x = need g (Form (Pi e.flag e.name e.ty e.ty) []) x

-- what is written next and the type does not take: at its braces, which stand at q, or else at p, where the number of patterns is wrong
abbrev pub misfit : {E : Type 0} → Pos → Pos → Next E → Refusal
misfit p q (Plain w) = at p WrongArity
misfit p q (needs.Braces w) = at q NoSuchName
misfit p q (Named x w) = at q NoSuchName
misfit p q (Field f) = at p WrongArity

-- the pattern m, by what the binder of the next argument needs of it, where the others are aligned if it is taken, and if nothing is
-- written for the argument
abbrev pub slots_by : Pos → ElimMeaning → Outcome Refusal (List Slot) → Outcome Refusal (List Slot) → Need PatternMeaning → Outcome Refusal (List Slot)
slots_by p m taken left (needs.Explicit w a b) = with_slot (written_slot (braces_of m.next) w) taken
slots_by p m taken left (needs.Given w a b) = with_slot (written_slot (braces_of m.next) w) taken
slots_by p m taken left (needs.Insert a b) = with_slot unwritten_slot left
slots_by p m taken left (needs.Project is) = Refuses (misfit p m.pos m.next)
slots_by p m taken left needs.End = Refuses (misfit p m.pos m.next)
slots_by p m taken left (needs.NotAFunction t) = Refuses (misfit p m.pos m.next)
slots_by p m taken left (needs.NotARecord t) = Refuses (misfit p m.pos m.next)
slots_by p m taken left needs.NoSuchName = Refuses (misfit p m.pos m.next)
slots_by p m taken left (needs.Waits k) = Refuses (misfit p m.pos m.next)

-- no pattern is left: nothing is written for an implicit argument, and an explicit one has to be
abbrev pub slot_left : Pos → Flag → Outcome Refusal (List Slot) → Outcome Refusal (List Slot)
slot_left p Explicit qs = Refuses (at p WrongArity)
slot_left p Implicit qs = with_slot unwritten_slot qs

-- the patterns of a constructor at p with its arguments, of which each has its pattern, or none if it is implicit
abbrev pub aligned : Signature Term → Pos → List ElimMeaning → Telescope Term → Outcome Refusal (List Slot)
aligned g p [] [] = Gives []
aligned g p (m ∷ ms) [] = Refuses (misfit p m.pos m.next)
aligned g p [] (e ∷ es) = slot_left p e.flag (aligned g p [] es)
aligned g p (m ∷ ms) (e ∷ es) = slots_by p m (aligned g p ms es) (aligned g p (m ∷ ms) es) (binder_need g e m.next)

-- patterns in the left side, and the left side with them
pub record ReadAll : Type 0 where
  pub pats : CorePats ℕ
  pub left : Left

abbrev pub read_all : CorePats ℕ → Left → ReadAll
read_all ps l = record { pats = ps; left = l }

-- the patterns of the arguments in order, whose spots have the numbers from j on
abbrev pub visit_all : List Slot → ℕ → Left → Reads ReadAll
visit_all [] j l = gives (read_all NoPat l)
visit_all (q ∷ qs) j l =
    q.visits j l >>= (λ r. visit_all qs (j + 1) r.left >>= (λ rs. gives (read_all (AndPat (Pat r.shape q.origin q.braces) rs.pats) rs.left)))

-- the arguments under the names of their patterns
abbrev pub slot_entries : List Slot → Telescope Term → Telescope Term
slot_entries [] es = es
slot_entries (q ∷ qs) [] = []
slot_entries (q ∷ qs) (e ∷ es) = record e { name = name_by q.origin e.name } ∷ slot_entries qs es

abbrev pub all_inserted : List Slot → ℕ
all_inserted [] = 0
all_inserted (q ∷ qs) = inserted_by q.origin + all_inserted qs

abbrev pub con_or : Pos → Option AtCon → Outcome Refusal AtCon
con_or p None = Refuses (at p CannotSplit)
con_or p (Some a) = Gives a

-- a constructor can be put for a variable alone: the number of entries outside it
abbrev pub variable_or : Pos → Spot → Outcome Refusal ℕ
variable_or p (AtVar i) = Gives i
variable_or p (AtValue v) = Refuses (at p ForcedConstructor)
variable_or p spot.AtCon = Refuses (at p ForcedConstructor)

-- the branch of a constructor's index equations in its context c
abbrev pub branch_or : Pos → Context Term → Unified → Outcome Refusal (Branch Term)
branch_or p c (UnifiedBy ss b) = Gives b
branch_or p c NeverUnified = Refuses (at p Impossible)
branch_or p c (StuckAt t u) = Refuses (at p (UnifyStuck c t u))
branch_or p c NoFuel = Refuses (at p OutOfFuel)
branch_or p c NoDepth = Refuses (at p OutOfDepth)

abbrev pub unified : Pos → Context Term → List Equation → Reads (Branch Term)
unified p c es = AsksUnifier c es (λ u. Is (branch_or p c u))

-- the variable outside i entries, whose type is that family, in the left side of f
abbrev pub split_at : ℕ → Left → ℕ → AtFamily → Splitting
split_at f l i a = record { context = l.context; var = index_of l.context i; params = a.params; indices = a.indices; ty = l.ty; left = left_term f l }

-- constructor k is put for the variable outside i entries, which is split by s, and then its patterns are read in the branch
abbrev pub put_con : Pos → ℕ → ConDecl Term → List Slot → ℕ → Splitting → Left → Reads Read
put_con p k con qs i s l =
    let d = con_context s k (slot_entries qs con.args) in
    unified p d (index_equations s con) >>= (λ b. visit_all qs (length l.spots) (put l s i k con.args (all_inserted qs) d b) >>= (λ r. gives (reads (ConPat k r.pats) r.left)))

-- constructor k at p with its patterns, in the left side of f
abbrev pub constructor : Signature Term → ℕ → Pos → ℕ → List ElimMeaning → Visits
constructor g f p k ms j l =
    shows p (type_at l.context (spot_at l j)) >>= (λ w. Is (con_or p (at_con g k w)) >>= (λ a. Is (aligned g p ms a.con.args) >>= (λ qs. Is (variable_or p (spot_at l j)) >>= (λ i.
    put_con p k a.con qs i (split_at f l i a.at) l))))

-- ---- absurd patterns

abbrev pub data_or : Pos → Option AtFamily → Outcome Refusal AtFamily
data_or p None = Refuses (at p NotAbsurd)
data_or p (Some a) = cond a.decl.is_record (Refuses (at p NotAbsurd)) (Gives a)

-- the variable whose split has no constructor left; for a value it is a new one of its type
abbrev pub absurd_split : ℕ → Left → AtFamily → Spot → Splitting
absurd_split f l a (AtVar i) = split_at f l i a
absurd_split f l a s =
    record { context = entry Explicit 0 (type_at l.context s) ∷ l.context; var = 0; params = a.params; indices = a.indices; ty = l.ty; left = left_term f l }

abbrev pub refuted_or : Pos → Context Term → Unified → Outcome Refusal (Unit {0})
refuted_or p c (UnifiedBy ss b) = Refuses (at p NotAbsurd)
refuted_or p c NeverUnified = Gives tt
refuted_or p c (StuckAt t u) = Refuses (at p (UnifyStuck c t u))
refuted_or p c NoFuel = Refuses (at p OutOfFuel)
refuted_or p c NoDepth = Refuses (at p OutOfDepth)

abbrev pub refuted : Pos → Context Term → List Equation → Reads (Unit {0})
refuted p c es = AsksUnifier c es (λ u. Is (refuted_or p c u))

-- each constructor is refuted: the first one in order that is not decides
abbrev pub all_refuted : Pos → Splitting → List ℕ → List (ConDecl Term) → Reads (Unit {0})
all_refuted p s [] cs = gives tt
all_refuted p s (k ∷ ks) [] = gives tt
all_refuted p s (k ∷ ks) (c ∷ cs) = refuted p (con_context s k c.args) (index_equations s c) >>= (λ o. all_refuted p s ks cs)

-- `()` at p, in the left side of f. Its variable stays
abbrev pub absurd_pattern : Signature Term → ℕ → Pos → Visits
absurd_pattern g f p j l =
    shows p (type_at l.context (spot_at l j)) >>= (λ w. Is (data_or p (at_family g w)) >>= (λ a.
    all_refuted p (absurd_split f l a (spot_at l j)) (cons_of g a.fam) a.decl.cons >>= (λ o. gives (reads AbsurdPat l))))

-- ---- what stands next in the left side of a function

abbrev pub binder_of : Answer → ℕ
binder_of (Form (Pi b x a t) []) = x
binder_of _ = 0

-- the pattern is for the variable of the function type that w shows
abbrev pub pattern_taken : Left → Flag → Answer → Term → Term → Braces → PatternMeaning → Reads Left
pattern_taken l b w a t c m = m.visits (length l.spots) (taken l b (binder_of w) a t m.origin) >>= (λ r. gives (with_pat r.left r.shape m.origin c))

-- a pattern is inserted for it
abbrev pub pattern_inserted : Left → Answer → Term → Term → Left
pattern_inserted l w a t = with_pat (taken l Implicit (binder_of w) a t Inserted) (VarPat (length l.spots)) Inserted S.Plain

-- the type of the field of the left side of f so far
abbrev pub field_type : Signature Term → ℕ → Left → OwnField → Term
field_type g f l is = under (reverse (is.params ++ take is.at (projections g is.fam (left_term f l)))) is.ty

-- by what the type of the left side so far, whose head form is w, needs of what stands next. `again` goes on where a pattern is inserted
abbrev pub elim_by_need : Signature Term → ℕ → ElimMeaning → Left → Answer → (Left → Reads Left) → Need PatternMeaning → Reads Left
elim_by_need g f m l w again (needs.Explicit p a b) = pattern_taken l Explicit w a b (braces_of m.next) p
elim_by_need g f m l w again (needs.Given p a b) = pattern_taken l Implicit w a b (braces_of m.next) p
elim_by_need g f m l w again (needs.Insert a b) = again (pattern_inserted l w a b)
elim_by_need g f m l w again (needs.Project is) = gives (projected l is.field (field_type g f l is))
elim_by_need g f m l w again needs.End = Is (Refuses (misfit m.pos m.pos m.next))
elim_by_need g f m l w again (needs.NotAFunction t) = Is (Refuses (misfit m.pos m.pos m.next))
elim_by_need g f m l w again (needs.NotARecord t) = Is (Refuses (misfit m.pos m.pos m.next))
elim_by_need g f m l w again needs.NoSuchName = Is (Refuses (misfit m.pos m.pos m.next))
elim_by_need g f m l w again (needs.Waits k) = Is (Refuses (misfit m.pos m.pos m.next))

-- what stands next, before which so many patterns may be inserted. It does not unfold by itself, since their number is large
unfoldable pub one_elim : Signature Term → ℕ → ElimMeaning → ℕ → Left → Reads Left
one_elim g f m zero l = shows m.pos l.ty >>= (λ w. elim_by_need g f m l w (λ k. refused m.pos WrongArity) (need g w m.next))
one_elim g f m (suc room) l = shows m.pos l.ty >>= (λ w. elim_by_need g f m l w (one_elim g f m room) (need g w m.next))

abbrev pub most_inserted : ℕ
most_inserted = 2000

-- all of it, in order
abbrev pub all_elims : Signature Term → ℕ → List ElimMeaning → Left → Reads Left
all_elims g f [] l = gives l
all_elims g f (m ∷ ms) l = one_elim g f m most_inserted l >>= all_elims g f ms
