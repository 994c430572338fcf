use Rattle.std.proofs.Common.{◌≡◌, ◌-◌, ◌∷◌, ◌++◌, List, length, map, take, drop, ap, ◌∙◌}
use Rattle.std.proofs.lemmas.Result.{err_from_is_err_and}
use Rattle.conversion.proofs.Slices.{unrolled, none_within}
use Rattle.core_rules.specs.Mapped.{con_map}
use Rattle.resolved_tree.specs.declared.resolved.ResolvedName.{ResolvedName}
use Rattle.written_rules.specs.Expressions.{ids}
use Rattle.data_rules.specs.Rules.{con_lines}
use Rattle.data_elab.specs.Constructors.{line_in, lines_in, named}
use Rattle.data_elab.specs.Heading.{heading_in}
use Rattle.data_elab.specs.Reader.{over, term_of}
use Rattle.data_elab.proofs.Kept.{Grows-trans, Keeps-trans, ready_kept}
use Rattle.data_elab.proofs.Lines.{heading-weaker}
use Rattle.data_elab.proofs.ConsRead.{all-read, cons-joined, cons-within, line-read, line-refused}
use Rattle.data_elab.proofs.reader.Reader.read_cons.Goals as goal

pub read_line-requires-clause-ready : goal.read_line-requires-clause-ready
read_line-requires-clause-ready c = ready_kept c.requires.ready c.loop-left.invariant.grows c.loop-left.invariant.keeps

pub read_line-requires-clause-heading : goal.read_line-requires-clause-heading
read_line-requires-clause-heading c = heading-weaker c.args.self.now.pool.now c.loop-left.self.pool.now c.args.heading.now c.loop-left.invariant.grows.extends c.requires.heading

pub returns-in_err-made-clause-is : goal.returns-in_err-made-clause-is
returns-in_err-made-clause-is c =
    let i = c.loop-left.invariant in
    let x = c.args.self.now in
    let y = c.loop-left.self in
    let h = c.args.heading.now in
    let all = con_lines c.args.fam (heading_in x.pool.now h) (lines_in x c.args.lines.now) in
    let left = c.loop-left.left.now in
    let s = c.line-item.result in
    let more = take (length left - 1) (drop 1 left) in
    let first : left ≡ s ∷ more = unrolled left s c.in-len1-up.len_at_least c.line-item.is in
    let ks = c.loop-left.cons.items in
    let r = err_from_is_err_and c.from_residual.result c.from_residual.ensures.1 in
    rw (r.1, r.2) (line-refused x y c.requires.ready i.grows i.keeps c.args.fam h c.requires.heading all ks left more s first i.reading c.read_line.new.self.pool.now c.in_err-made.field-0.0 c.in_err-made.ensures.is)

pub loop-left-preserved : goal.loop-left-preserved
loop-left-preserved c =
    let i = c.loop-left.invariant in
    let x = c.args.self.now in
    let y = c.loop-left.self in
    let h = c.args.heading.now in
    let all = con_lines c.args.fam (heading_in x.pool.now h) (lines_in x c.args.lines.now) in
    let left = c.loop-left.left.now in
    let s = c.line-item.result in
    let more = take (length left - 1) (drop 1 left) in
    let first : left ≡ s ∷ more = unrolled left s c.in-len1-up.len_at_least c.line-item.is in
    let ks = c.loop-left.cons.items in
    let z = c.read_line.new.self in
    let j = c.in_ok-made.ensures in
    let l = c.in_ok-made.made in
    let new = c.put_line.new.cons.items in
    let xs = ids s.names in
    let put : new ≡ ks ++ map (named l.args.items l.indices.items) xs = c.in_ok-put_line.ensures ∙ ap (λ (ns : List ResolvedName). ks ++ map (named l.args.items l.indices.items) (ids ns)) c.as_slice.ensures in
    record {
      grows = Grows-trans i.grows j.grows;
      keeps = Keeps-trans i.keeps j.keeps;
      within = cons-within y.pool.now z.pool.now ks new l xs j.grows.extends i.within j.is.0 put;
      reading = line-read x y c.requires.ready i.grows i.keeps c.args.fam h c.requires.heading all ks left more s first i.reading (line_in xs z.pool.now l) (map (con_map (term_of z)) new) j.is.1 (cons-joined y.pool.now z.pool.now ks new l xs j.grows.extends i.within put);
    }

pub returns-clause-is : goal.returns-clause-is
returns-clause-is c =
    let i = c.loop-left.invariant in
    let x = c.args.self.now in
    let y = c.loop-left.self in
    let h = c.args.heading.now in
    let left = c.loop-left.left.now in
    (i.within, all-read (over x) (con_lines c.args.fam (heading_in x.pool.now h) (lines_in x c.args.lines.now)) c.args.fam (heading_in x.pool.now h) (map (con_map (term_of y)) c.loop-left.cons.items) (lines_in x left) i.reading (ap (lines_in x) (none_within left c.in_default.len_below)))
