use Rattle.std.proofs.Common.{◌≡◌, ◌∷◌, ◌-◌, length, take, drop}
use Rattle.std.proofs.lemmas.Result.{err_from_is_err_and}
use Rattle.conversion.proofs.Slices.{unrolled, none_within}
use Rattle.data_rules.specs.Rules.{params}
use Rattle.data_elab.specs.Params.{binders_in}
use Rattle.data_elab.specs.Reader.{values_of}
use Rattle.data_elab.proofs.Kept.{Grows-trans}
use Rattle.data_elab.proofs.Groups.{param-read, param-refused, params-read}
use Rattle.data_elab.proofs.reader.Reader.enter_params.Goals as goal

pub returns-in_err-enter_param-clause-is : goal.returns-in_err-enter_param-clause-is
returns-in_err-enter_param-clause-is c =
    let i = c.loop-left.invariant in
    let x = c.args.self.now in
    let left = c.loop-left.left.now in
    let b = c.binder-item.result in
    let more = take (length left - 1) (drop 1 left) in
    let first : left ≡ b ∷ more = unrolled left b c.in-len1-up.len_at_least c.binder-item.is in
    let r = err_from_is_err_and c.from_residual.result c.from_residual.ensures.1 in
    rw (r.1, r.2)
    (param-refused c.requires.ready i.grows left more b first (params (binders_in x c.args.binders.now) (values_of x)) i.read c.enter_param.new.self.pool.now c.in_err-enter_param.field-0.0 c.in_err-enter_param.ensures.is)

pub loop-left-preserved : goal.loop-left-preserved
loop-left-preserved c =
    let i = c.loop-left.invariant in
    let x = c.args.self.now in
    let left = c.loop-left.left.now in
    let b = c.binder-item.result in
    let more = take (length left - 1) (drop 1 left) in
    let first : left ≡ b ∷ more = unrolled left b c.in-len1-up.len_at_least c.binder-item.is in
    let h = c.in_ok-enter_param.ensures in
    record {
      grows = Grows-trans i.grows h.grows;
      read = param-read c.requires.ready i.grows left more b first (params (binders_in x c.args.binders.now) (values_of x)) i.read h.is;
    }

pub returns-clause-is : goal.returns-clause-is
returns-clause-is c =
    let x = c.args.self.now in
    let left = c.loop-left.left.now in
    params-read left (params (binders_in x c.args.binders.now) (values_of x)) (none_within left c.in_default.len_below) c.loop-left.invariant.read
