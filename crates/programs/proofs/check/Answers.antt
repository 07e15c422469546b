use Rattle.reader.proofs.Laws.{handed-back}
use Rattle.programs.specs.Calls.{read}
use Rattle.programs.proofs.Answers.{check-ok, check-err}
use Rattle.programs.proofs.check.Goals as goal

pub returns-in_err-image : goal.returns-in_err-image
returns-in_err-image c =
    handed-back c.from_residual.result c.from_residual.ensures.1 (check-err (read c.args.words.now) c.in_err-image.ensures)

pub returns : goal.returns
returns c = check-ok (read c.args.words.now) c.in_ok-image.ensures
