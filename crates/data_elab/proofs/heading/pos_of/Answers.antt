use Rattle.std.proofs.Common.{ap, ◌∙◌}
use Rattle.written_rules.specs.Expressions.{ExprMeaning, expr_meaning}
use Rattle.written_rules.proofs.Forms.{pi_means, forall_means, lambda_means, arrow_means, app_means, variable_means, def_means, family_means, con_means, set_means, hole_means, underscore_means, record_means}
use Rattle.data_elab.proofs.Indices.{application-pos}
use Rattle.data_elab.proofs.heading.pos_of.Goals as goal

pub returns-in-Pi : goal.returns-in-Pi
returns-in-Pi c = λ g. ap (λ (m : ExprMeaning). m.pos) (ap (expr_meaning g) c.in-Pi.is ∙ pi_means g _ _ _)

pub returns-in-Forall : goal.returns-in-Forall
returns-in-Forall c = λ g. ap (λ (m : ExprMeaning). m.pos) (ap (expr_meaning g) c.in-Forall.is ∙ forall_means g _ _ _)

pub returns-in-Lambda : goal.returns-in-Lambda
returns-in-Lambda c = λ g. ap (λ (m : ExprMeaning). m.pos) (ap (expr_meaning g) c.in-Lambda.is ∙ lambda_means g _ _ _)

pub returns-in-Arrow : goal.returns-in-Arrow
returns-in-Arrow c = λ g. ap (λ (m : ExprMeaning). m.pos) (ap (expr_meaning g) c.in-Arrow.is ∙ arrow_means g _ _ _)

pub returns-in-App : goal.returns-in-App
returns-in-App c = λ g. ap (λ (m : ExprMeaning). m.pos) (ap (expr_meaning g) c.in-App.is ∙ app_means g _ _ _) ∙ application-pos g _ _ _ _

pub returns-in-Variable : goal.returns-in-Variable
returns-in-Variable c = λ g. ap (λ (m : ExprMeaning). m.pos) (ap (expr_meaning g) c.in-Variable.is ∙ variable_means g _ _)

pub returns-in-Def : goal.returns-in-Def
returns-in-Def c = λ g. ap (λ (m : ExprMeaning). m.pos) (ap (expr_meaning g) c.in-Def.is ∙ def_means g _ _)

pub returns-in-Family : goal.returns-in-Family
returns-in-Family c = λ g. ap (λ (m : ExprMeaning). m.pos) (ap (expr_meaning g) c.in-Family.is ∙ family_means g _ _)

pub returns-in-Con : goal.returns-in-Con
returns-in-Con c = λ g. ap (λ (m : ExprMeaning). m.pos) (ap (expr_meaning g) c.in-Con.is ∙ con_means g _ _)

pub returns-in-SetLevel : goal.returns-in-SetLevel
returns-in-SetLevel c = λ g. ap (λ (m : ExprMeaning). m.pos) (ap (expr_meaning g) c.in-SetLevel.is ∙ set_means g _ _)

pub returns-in-Hole : goal.returns-in-Hole
returns-in-Hole c = λ g. ap (λ (m : ExprMeaning). m.pos) (ap (expr_meaning g) c.in-Hole.is ∙ hole_means g _)

pub returns-in-Underscore : goal.returns-in-Underscore
returns-in-Underscore c = λ g. ap (λ (m : ExprMeaning). m.pos) (ap (expr_meaning g) c.in-Underscore.is ∙ underscore_means g _)

pub returns-in-Record : goal.returns-in-Record
returns-in-Record c = λ g. ap (λ (m : ExprMeaning). m.pos) (ap (expr_meaning g) c.in-Record.is ∙ record_means g _ _)
