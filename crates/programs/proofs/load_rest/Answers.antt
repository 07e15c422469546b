use Rattle.reader.proofs.Laws.{handed-back}
use Rattle.programs.proofs.Stages.{actions-refused, actions-within, forbidden-refused, forbidden-within, end-stopped, rest_read}
use Rattle.programs.proofs.load_rest.Goals as goal

pub returns-in_err-actions : goal.returns-in_err-actions
returns-in_err-actions c =
    handed-back c.from_residual.result c.from_residual.ensures.1 (actions-refused c.args.ranges.now c.args.start.now c.args.preds.now c.requires.0 c.args.words.now c.args.at c.requires.2 c.in_err-actions.ensures)

pub read_forbidden-requires : goal.read_forbidden-requires
read_forbidden-requires c = (c.requires.1, actions-within c.args.ranges.now c.args.start.now c.args.preds.now c.requires.0 c.args.words.now c.args.at c.requires.2 c.in_ok-actions.ensures)

pub returns-in_err-forbidden : goal.returns-in_err-forbidden
returns-in_err-forbidden c =
    handed-back c.from_residual-in_err-forbidden.result c.from_residual-in_err-forbidden.ensures.1 (forbidden-refused c.args.ranges.now c.args.start.now c.args.preds.now c.requires.0 c.args.words.now c.args.at c.requires.2 c.in_ok-actions.ensures c.in_err-forbidden.ensures)

pub read_end-requires : goal.read_end-requires
read_end-requires c = forbidden-within c.args.ranges.now c.args.start.now c.args.preds.now c.requires.0 c.args.words.now c.args.at c.requires.2 c.in_ok-actions.ensures c.in_ok-forbidden.ensures

pub returns-in_err-read_end : goal.returns-in_err-read_end
returns-in_err-read_end c =
    handed-back c.from_residual-in_err-read_end.result c.from_residual-in_err-read_end.ensures.1 (end-stopped c.args.ranges.now c.args.start.now c.args.preds.now c.requires.0 c.args.words.now c.args.at c.requires.2 c.in_ok-actions.ensures c.in_ok-forbidden.ensures c.in_err-read_end.ensures)

pub returns : goal.returns
returns c = rest_read c.args.ranges.now c.args.start.now c.args.preds.now c.requires.0 c.args.words.now c.args.at c.requires.2 c.in_ok-actions.ensures c.in_ok-forbidden.ensures c.in_ok-read_end.ensures
