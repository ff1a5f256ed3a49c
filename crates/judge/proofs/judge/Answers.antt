-- `judge::judge` meets its contract: a fault of the file, or the rest. Assumes nothing.
use mathlib.Core.Path.{sym, subst, ◌∙◌}
use Rattle.rules.specs.Tests.{Given}
use Rattle.chart.specs.Form.{form_tests}
use Rattle.survey.proofs.Entry.{form_formed}
use Rattle.judge.proofs.Answers.{file_some, refused_file}
use Rattle.judge.proofs.judge.Goals as goal

pub judge_any-requires : goal.judge_any-requires
judge_any-requires c =
    let given = rw (← c.in-Ok.ensures.bytes) at c.in-Ok.ensures.number in
    (form_formed _ given, given)

pub returns-in-Err : goal.returns-in-Err
returns-in-Err c =
    let same = c.number.ensures in
    refused_file _ _ _ (λ e. file_some c.in-Err.fault (sym same ∙ e)) (subst (Given form_tests _ 0) (sym same) c.in-Err.ensures.number)
