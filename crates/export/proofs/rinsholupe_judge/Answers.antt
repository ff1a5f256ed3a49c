-- `export::rinsholupe_judge` meets its contract: a verdict has a small number. Assumes nothing.
use Rattle.export.proofs.Small.{verdict_small}
use Rattle.export.proofs.rinsholupe_judge.Goals as goal

pub verdict_number-requires : goal.verdict_number-requires
verdict_number-requires c = verdict_small _ _ _ c.judge-verdict.ensures.judged
