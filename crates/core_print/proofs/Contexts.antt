-- The names and the lines of contexts.
use Rattle.std.proofs.Common.{◌≡◌, ℕ, ◌+◌, ◌-◌, ◌<◌, ◌≤◌, Bool, cond, List, [], ◌∷◌, ◌++◌, length, map, reverse, take, drop, get_or, zero, suc, refl, sym, ap, ap₂, ◌∙◌, arith, append_assoc, length-take, length-drop}
use Rattle.std.specs.Prelude.{◌&&◌, not, slice_get, Some}
use Rattle.std.proofs.lemmas.List.{append-nil, reverse-append, take-append-drop, length-reverse, length-map, map-append}
use Rattle.std.proofs.Math.Seq.{drop-append_seam, take-length}
use Rattle.el_base.proofs.Lists.{drop_next, map-reverse, reverse_push, take_next}
use Rattle.core_rules.specs.Term.{Term}
use Rattle.core_rules.specs.Signature.{Entry, Telescope, Solved, CheckedLeft}
use Rattle.core_rules.specs.Mapped.{entry_map, left_map, solved_map, telescope_map}
use Rattle.core_print.specs.Apart.{Text, different, is_among}
use Rattle.core_print.specs.ContextText.{context_text, entry_line, entry_lines, in_scope, is_sourced, solved_line, solved_lines}
use Rattle.core_print.specs.Labels.{label_text}
use Rattle.core_print.specs.Names.{World, called, context_names, name_text, names_outside, source_names}
use Rattle.core_print.specs.Pages.{names_in}
use Rattle.core_print.specs.Printed.{term_text}
use Rattle.core_print.specs.Variables.{WrittenVar, variables_all}
use Rattle.core_print.specs.declared.label.Label.{Label}
use Rattle.core_print.proofs.Collecting.{all-map, drop_none}

-- one item more is taken
pub take_more : {X : Type 0} (xs : List X) (i : ℕ) (x : X) → i < length xs → x ≡ get_or xs i x → take (i + 1) xs ≡ take i xs ++ x ∷ []
take_more xs i x l e = take_next xs i x (within xs i x l e)
  where
    within : {X : Type 0} (xs : List X) (i : ℕ) (x : X) → i < length xs → x ≡ get_or xs i x → slice_get xs i ≡ Some x
    within [] i x l e = absurd (omega (arith, l))
    within (y ∷ xs) zero x l e = ap Some (sym e)
    within (y ∷ xs) (suc i) x l e = within xs i x (omega (arith, l)) e

-- the names that the source has do not depend on types
names-map : (w : World) {A B : Type 0} (f : A → B) (es : List (Entry A)) → map (λ e. name_text w.names e.name) (map (entry_map f) es) ≡ map (λ e. name_text w.names e.name) es
names-map w f [] = refl
names-map w f (e ∷ es) = ap (λ (xs : List Text). name_text w.names e.name ∷ xs) (names-map w f es)

pub source-map : (w : World) {A B : Type 0} (f : A → B) (c : Telescope A) → source_names w (telescope_map f c) ≡ source_names w c
source-map w f c = ap (map (λ e. name_text w.names e.name)) (sym (map-reverse (entry_map f) c)) ∙ names-map w f (reverse c)

pub context-map : (w : World) {A B : Type 0} (f : A → B) (c : Telescope A) → context_names w (telescope_map f c) ≡ context_names w c
context-map w f c = ap (names_outside []) (source-map w f c)

types-map : {A : Type 0} (g : Term → Term) (h : A → Term) (es : List (Entry A)) → map (λ e. e.ty) (map (entry_map g) (map (entry_map h) es)) ≡ map (λ e. g (h e.ty)) es
types-map g h [] = refl
types-map g h (e ∷ es) = ap (λ (ts : List Term). g (h e.ty) ∷ ts) (types-map g h es)

-- a further entry, outside those so far
pub source_next : (w : World) (es : Telescope ℕ) (i : ℕ) (e : Entry ℕ) → i < length es → e ≡ get_or es i e → source_names w (take (i + 1) es) ≡ name_text w.names e.name ∷ source_names w (take i es)
source_next w es i e l h = ap (map (λ e. name_text w.names e.name)) (ap reverse (take_more es i e l h) ∙ reverse_push (take i es) e)

pub length-source : (w : World) (es : Telescope ℕ) (i : ℕ) → i ≤ length es → length (source_names w (take i es)) ≡ i
length-source w es i l = omega (arith, length-map (reverse (take i es)) (λ e. name_text w.names e.name), length-reverse (take i es), length-take i es, l)

pub scope_next : (vs : List WrittenVar) (k : ℕ) (inside xs : List Text) (x : Text) (n : ℕ) → length xs ≡ n
    → in_scope vs k inside (x ∷ xs) ≡ (is_sourced vs k n x && not (is_among x inside)) ∷ in_scope vs k (cond (is_sourced vs k n x) (x ∷ inside) inside) xs
scope_next vs k inside xs x n e =
    ap (λ n. (is_sourced vs k n x && not (is_among x inside)) ∷ in_scope vs k (cond (is_sourced vs k n x) (x ∷ inside) inside) xs) e

-- a further entry is marked, whose name is x
pub scope_more : (w : World) (vs : List WrittenVar) (k : ℕ) (es : Telescope ℕ) (m n : ℕ) (e : Entry ℕ) (x : ℕ) (ms bs : List Bool) (xs ys : List ℕ) → m ≡ n + 1 → n < length es → e ≡ get_or es n e → x ≡ e.name
    → in_scope vs k [] (source_names w es) ≡ ms ++ in_scope vs k (map (name_text w.names) (reverse xs)) (source_names w (take m es))
    → bs ≡ ms ++ (is_sourced vs k n (name_text w.names x) && not (is_among (name_text w.names x) (map (name_text w.names) (reverse xs)))) ∷ []
    → map (name_text w.names) (reverse ys) ≡ cond (is_sourced vs k n (name_text w.names x)) (name_text w.names x ∷ map (name_text w.names) (reverse xs)) (map (name_text w.names) (reverse xs))
    → in_scope vs k [] (source_names w es) ≡ bs ++ in_scope vs k (map (name_text w.names) (reverse ys)) (source_names w (take n es))
scope_more w vs k es m n e x ms bs xs ys q l h j i b y =
    let t : Text = name_text w.names x in
    let inside : List Text = map (name_text w.names) (reverse xs) in
    let mark : Bool = is_sourced vs k n t && not (is_among t inside) in
    let rest : List Text = source_names w (take n es) in
    let next : source_names w (take m es) ≡ t ∷ rest =
    ap (λ j. source_names w (take j es)) q ∙ (source_next w es n e l h ∙ ap (λ i. name_text w.names i ∷ rest) (sym j)) in
    i ∙ (ap (λ (zs : List Text). ms ++ in_scope vs k inside zs) next
    ∙ (ap (λ (zs : List Bool). ms ++ zs) (scope_next vs k inside rest t n (length-source w es n (omega (arith, l))))
    ∙ (ap (λ (zs : List Text). ms ++ mark ∷ in_scope vs k zs rest) (sym y)
    ∙ (sym (append_assoc ms (mark ∷ []) (in_scope vs k (map (name_text w.names) (reverse ys)) rest))
    ∙ ap (λ (zs : List Bool). zs ++ in_scope vs k (map (name_text w.names) (reverse ys)) rest) (sym b)))))

-- a further entry is named, whose name in the source is x
pub names_more : (w : World) (es : Telescope ℕ) (m n : ℕ) (e : Entry ℕ) (x : ℕ) (ls ks : List Label) (l : Label) → m ≡ n + 1 → n < length es → e ≡ get_or es n e → x ≡ e.name
    → names_outside [] (source_names w es) ≡ map (label_text w.names) ls ++ names_outside (map (label_text w.names) (reverse ls)) (source_names w (take m es))
    → ks ≡ ls ++ l ∷ [] → label_text w.names l ≡ different (map (label_text w.names) (reverse ls)) (called (name_text w.names x))
    → names_outside [] (source_names w es) ≡ map (label_text w.names) ks ++ names_outside (map (label_text w.names) (reverse ks)) (source_names w (take n es))
names_more w es m n e x ls ks l q b h j i k d =
    let f : Label → Text = label_text w.names in
    let rest : List Text = source_names w (take n es) in
    let next : source_names w (take m es) ≡ name_text w.names x ∷ rest =
    ap (λ j. source_names w (take j es)) q ∙ (source_next w es n e b h ∙ ap (λ i. name_text w.names i ∷ rest) (sym j)) in
    let inside : map f (reverse ks) ≡ f l ∷ map f (reverse ls) = ap (map f) (ap reverse k ∙ reverse_push ls l) in
    let outside : map f ks ≡ map f ls ++ f l ∷ [] = ap (map f) k ∙ map-append f ls (l ∷ []) in
    i ∙ (ap (λ (zs : List Text). map f ls ++ names_outside (map f (reverse ls)) zs) next
    ∙ (ap (λ (z : Text). map f ls ++ z ∷ names_outside (z ∷ map f (reverse ls)) rest) (sym d)
    ∙ (sym (append_assoc (map f ls) (f l ∷ []) (names_outside (f l ∷ map f (reverse ls)) rest))
    ∙ ap₂ (λ (ys zs : List Text). ys ++ names_outside zs rest) (sym outside) (sym inside))))

-- a further line
pub lines_push : {E : Type 0} (w : World) (xs : List Text) (f : E → Term) (ls ks : List Label) (ms bs : List Bool) (es ds : List E) (l : Label) (m : Bool) (e : E)
    → ks ≡ ls ++ l ∷ [] → bs ≡ ms ++ m ∷ [] → ds ≡ es ++ e ∷ []
    → entry_lines w (names_in xs ks) (reverse bs) (map f (reverse ds))
    ≡ entry_lines w (names_in xs ls) (reverse ms) (map f (reverse es)) ++ entry_line (label_text xs l) (term_text w (names_in xs ls) (f e)) m
lines_push w xs f ls ks ms bs es ds l m e p q r =
    let a : names_in xs ks ≡ label_text xs l ∷ names_in xs ls = ap (λ (ls : List Label). map (label_text xs) ls) (ap reverse p ∙ reverse_push ls l) in
    let b : reverse bs ≡ m ∷ reverse ms = ap reverse q ∙ reverse_push ms m in
    let c : map f (reverse ds) ≡ f e ∷ map f (reverse es) = ap (map f) (ap reverse r ∙ reverse_push es e) in
    ap (λ (ns : List Text). entry_lines w ns (reverse bs) (map f (reverse ds))) a
    ∙ (ap (λ (bs : List Bool). entry_lines w (label_text xs l ∷ names_in xs ls) bs (map f (reverse ds))) b
    ∙ ap (λ (ts : List Term). entry_lines w (label_text xs l ∷ names_in xs ls) (m ∷ reverse ms) ts) c)

-- the same with what is written before
pub lines_more : (w : World) (xs : List Text) (f : ℕ → Term) (ls : List Label) (ms : List Bool) (es : List (Entry ℕ)) (n : ℕ) (l : Label) (m : Bool) (e : Entry ℕ) (ty : ℕ) (inside : List Label) (o0 o1 o2 : Text)
    → n < length ls → n < length ms → n < length es → l ≡ get_or ls n l → m ≡ get_or ms n m → e ≡ get_or es n e → ty ≡ e.ty → inside ≡ take n ls
    → o1 ≡ o0 ++ entry_lines w (names_in xs (take n ls)) (reverse (take n ms)) (map (λ e. f e.ty) (reverse (take n es)))
    → o2 ≡ o1 ++ entry_line (label_text xs l) (term_text w (names_in xs inside) (f ty)) m
    → o2 ≡ o0 ++ entry_lines w (names_in xs (take (n + 1) ls)) (reverse (take (n + 1) ms)) (map (λ e. f e.ty) (reverse (take (n + 1) es)))
lines_more w xs f ls ms es n l m e ty inside o0 o1 o2 b1 b2 b3 h1 h2 h3 ht hi i h =
    let before : Text = entry_lines w (names_in xs (take n ls)) (reverse (take n ms)) (map (λ e. f e.ty) (reverse (take n es))) in
    let line : Text = entry_line (label_text xs l) (term_text w (names_in xs (take n ls)) (f e.ty)) m in
    h ∙ (ap₂ (λ (o : Text) (x : Text). o ++ x) i (ap₂ (λ (ks : List Label) (t : ℕ). entry_line (label_text xs l) (term_text w (names_in xs ks) (f t)) m) hi ht)
    ∙ (append_assoc o0 before line
    ∙ ap (λ (x : Text). o0 ++ x) (sym (lines_push w xs (λ (e : Entry ℕ). f e.ty) (take n ls) (take (n + 1) ls) (take n ms) (take (n + 1) ms) (take n es) (take (n + 1) es) l m e (take_more ls n l b1 h1) (take_more ms n m b2 h2) (take_more es n e b3 h3)))))

pub get_or_within : {X : Type 0} (xs : List X) (i : ℕ) (d e : X) → i < length xs → get_or xs i d ≡ get_or xs i e
get_or_within [] i d e l = absurd (omega (arith, l))
get_or_within (x ∷ xs) zero d e l = refl
get_or_within (x ∷ xs) (suc i) d e l = get_or_within xs i d e (omega (arith, l))

-- all lines
pub lines_whole : {E : Type 0} (w : World) (xs : List Text) (f : E → Term) (ls : List Label) (ms : List Bool) (es : List E) (n : ℕ) → length ls ≡ n → length ms ≡ n → length es ≡ n
    → entry_lines w (names_in xs (take n ls)) (reverse (take n ms)) (map f (reverse (take n es))) ≡ entry_lines w (names_in xs ls) (reverse ms) (map f (reverse es))
lines_whole w xs f ls ms es n p q r =
    let a : take n ls ≡ ls = ap (λ n. take n ls) (sym p) ∙ take-length ls in
    let b : take n ms ≡ ms = ap (λ n. take n ms) (sym q) ∙ take-length ms in
    let c : take n es ≡ es = ap (λ n. take n es) (sym r) ∙ take-length es in
    ap (λ (ls : List Label). entry_lines w (names_in xs ls) (reverse (take n ms)) (map f (reverse (take n es)))) a
    ∙ (ap (λ (ms : List Bool). entry_lines w (names_in xs ls) (reverse ms) (map f (reverse (take n es)))) b
    ∙ ap (λ es. entry_lines w (names_in xs ls) (reverse ms) (map f (reverse es))) c)

-- the names of the outermost labels
pub first_names : (ns : List Text) (ls : List Label) (k : ℕ) → k ≤ length ls → names_in ns (take k ls) ≡ drop (length ls - k) (names_in ns ls)
first_names ns ls k l =
    let f : Label → Text = label_text ns in
    let a : List Text = map f (reverse (drop k ls)) in
    let b : List Text = map f (reverse (take k ls)) in
    let n : length a ≡ length ls - k = length-map (reverse (drop k ls)) f ∙ (length-reverse (drop k ls) ∙ length-drop k ls) in
    let s : names_in ns ls ≡ a ++ b =
    ap (λ (ls : List Label). map f (reverse ls)) (sym (take-append-drop k ls)) ∙ (ap (map f) (reverse-append (take k ls) (drop k ls)) ∙ map-append f (reverse (drop k ls)) (reverse (take k ls))) in
    sym (ap (drop (length ls - k)) s ∙ (ap (λ n. drop n (a ++ b)) (sym n) ∙ drop-append_seam a b))

-- ---- the whole text

solved-map : {A : Type 0} (g : Term → Term) (h : A → Term) (ss : List (Solved A)) → map (solved_map g) (map (solved_map h) ss) ≡ map (solved_map (λ t. g (h t))) ss
solved-map g h [] = refl
solved-map g h (s ∷ ss) = ap (λ (ss : List (Solved Term)). solved_map g (solved_map h s) ∷ ss) (solved-map g h ss)

-- the text of a context whose terms are made of others in two steps
pub text_is : {A : Type 0} (w : World) (g : Term → Term) (h : A → Term) (l : CheckedLeft A) (c : Telescope A)
    → context_text w (left_map g (left_map h l)) (telescope_map g (telescope_map h c))
    ≡ entry_lines w (context_names w c) (in_scope (variables_all l.pats) (length l.context) [] (source_names w c)) (map (λ e. g (h e.ty)) (reverse c))
    ++ solved_lines w (drop (length c - length l.context) (context_names w c)) (map (solved_map (λ t. g (h t))) l.named)
text_is w g h l c =
    let names : context_names w (telescope_map g (telescope_map h c)) ≡ context_names w c = context-map w g (telescope_map h c) ∙ context-map w h c in
    let source : source_names w (telescope_map g (telescope_map h c)) ≡ source_names w c = source-map w g (telescope_map h c) ∙ source-map w h c in
    let vars : variables_all (left_map g (left_map h l)).pats ≡ variables_all l.pats = all-map g (left_map h l).pats ∙ all-map h l.pats in
    let outside : length (left_map g (left_map h l)).context ≡ length l.context = length-map (telescope_map h l.context) (entry_map g) ∙ length-map l.context (entry_map h) in
    let whole : length (telescope_map g (telescope_map h c)) ≡ length c = length-map (telescope_map h c) (entry_map g) ∙ length-map c (entry_map h) in
    let types : map (λ e. e.ty) (reverse (telescope_map g (telescope_map h c))) ≡ map (λ e. g (h e.ty)) (reverse c) =
    ap (map (λ e. e.ty)) (sym (map-reverse (entry_map g) (telescope_map h c)) ∙ ap (map (entry_map g)) (sym (map-reverse (entry_map h) c))) ∙ types-map g h (reverse c) in
    let scope : in_scope (variables_all (left_map g (left_map h l)).pats) (length (left_map g (left_map h l)).context) [] (source_names w (telescope_map g (telescope_map h c)))
    ≡ in_scope (variables_all l.pats) (length l.context) [] (source_names w c) =
    ap (λ (vs : List WrittenVar). in_scope vs (length (left_map g (left_map h l)).context) [] (source_names w (telescope_map g (telescope_map h c)))) vars
    ∙ ap₂ (λ (k : ℕ) (xs : List Text). in_scope (variables_all l.pats) k [] xs) outside source in
    ap₂ (λ (a b : Text). a ++ b)
    (ap (λ (ns : List Text). entry_lines w ns (in_scope (variables_all (left_map g (left_map h l)).pats) (length (left_map g (left_map h l)).context) [] (source_names w (telescope_map g (telescope_map h c)))) (map (λ e. e.ty) (reverse (telescope_map g (telescope_map h c))))) names
    ∙ ap₂ (λ (bs : List Bool) (ts : List Term). entry_lines w (context_names w c) bs ts) scope types)
    (ap₂ (λ (n : ℕ) (ns : List Text). solved_lines w (drop n ns) (left_map g (left_map h l)).named) (ap₂ (λ (m n : ℕ). m - n) whole outside) names
    ∙ ap (solved_lines w (drop (length c - length l.context) (context_names w c))) (solved-map g h l.named))

-- the lines of the entries and those of the solved names
pub whole_is : {A : Type 0} (w : World) (g : Term → Term) (h : A → Term) (l : CheckedLeft A) (c : Telescope A) (ns outer : List Text) (o0 o1 o2 : Text)
    → o0 ≡ [] → ns ≡ context_names w c → outer ≡ drop (length c - length l.context) ns
    → o1 ≡ o0 ++ entry_lines w ns (in_scope (variables_all l.pats) (length l.context) [] (source_names w c)) (map (λ e. g (h e.ty)) (reverse c))
    → o2 ≡ o1 ++ solved_lines w outer (map (solved_map (λ t. g (h t))) l.named)
    → o2 ≡ context_text w (left_map g (left_map h l)) (telescope_map g (telescope_map h c))
whole_is w g h l c ns outer o0 o1 o2 e0 en eo e1 e2 =
    let entries = λ (ns : List Text). entry_lines w ns (in_scope (variables_all l.pats) (length l.context) [] (source_names w c)) (map (λ e. g (h e.ty)) (reverse c)) in
    let solved = λ (ns : List Text). solved_lines w ns (map (solved_map (λ t. g (h t))) l.named) in
    e2 ∙ (ap₂ (λ (a b : Text). a ++ b) (e1 ∙ ap (λ (o : Text). o ++ entries ns) e0) (ap solved eo)
    ∙ (ap (λ (ns : List Text). entries ns ++ solved (drop (length c - length l.context) ns)) en ∙ sym (text_is w g h l c)))

-- the line of the next solved name
pub solved_next : (w : World) (ns : List Text) (f : ℕ → Term) (a b : Text) (ss : List (Solved ℕ)) (i : ℕ) (s : Solved ℕ) → i < length ss → s ≡ get_or ss i s → b ≡ a ++ solved_line w ns (solved_map f s)
    → a ++ solved_lines w ns (map (solved_map f) (drop i ss)) ≡ b ++ solved_lines w ns (map (solved_map f) (drop (i + 1) ss))
solved_next w ns f a b ss i s l e h =
    let rest : Text = solved_lines w ns (map (solved_map f) (drop (i + 1) ss)) in
    ap (λ (ss : List (Solved ℕ)). a ++ solved_lines w ns (map (solved_map f) ss)) (drop_next ss i s l e)
    ∙ (sym (append_assoc a (solved_line w ns (solved_map f s)) rest) ∙ ap (λ (x : Text). x ++ rest) (sym h))

pub solved_end : (w : World) (ns : List Text) (f : ℕ → Term) (a : Text) (ss : List (Solved ℕ)) (i : ℕ) → length ss ≤ i → a ++ solved_lines w ns (map (solved_map f) (drop i ss)) ≡ a
solved_end w ns f a ss i l = ap (λ (ss : List (Solved ℕ)). a ++ solved_lines w ns (map (solved_map f) ss)) (drop_none ss i l) ∙ append-nil a
