-- The needs of `tell`.
use Rattle.std.proofs.Common.{[], ◌++◌, Err, subst}
use Rattle.std.proofs.lemmas.Result.{err_from_is_err_and}
use Rattle.writing.specs.Outputs.{room}
use Rattle.runs.specs.Run.{FileRuns, blamed, so_far}
use Rattle.runs.specs.declared.outcome.Stop.TheVariants.{Refused}
use Rattle.runs.proofs.Running.{blamed_after, blamed-full, adds-on}
use Rattle.runs.proofs.told.tell.Goals as goal

pub returns-in_err-blame-in-Err-Refused : goal.returns-in_err-blame-in-Err-Refused
returns-in_err-blame-in-Err-Refused c =
    let h = c.in-Err-Refused.ensures in
    let b = c.run_file.new.output in
    let at = c.in-Err-Refused.at in
    let r : FileRuns c.args.file.now (room c.args.output.now) (so_far h.0 (room b) (Err (Refused at))) = rw c.in-Err-Refused.field-0-is at h.2 in
    let p = err_from_is_err_and c.from_residual.result c.from_residual.ensures.1 in (
      h.0 ++ [],
      adds-on c.args.output.now b c.blame.new.output h.0 [] h.1 c.in_err-blame-in-Err-Refused.ensures.adds,
      rw (p.1, p.2) (subst (FileRuns c.args.file.now (room c.args.output.now)) (blamed-full h.0 (room b) at c.in_err-blame-in-Err-Refused.ensures.fits) r),
    )

pub returns-in_ok-blame-in-Err-Refused : goal.returns-in_ok-blame-in-Err-Refused
returns-in_ok-blame-in-Err-Refused c =
    let h = c.in-Err-Refused.ensures in
    let b = c.run_file.new.output in
    let at = c.in-Err-Refused.at in
    let r : FileRuns c.args.file.now (room c.args.output.now) (so_far h.0 (room b) (Err (Refused at))) = rw c.in-Err-Refused.field-0-is at h.2 in (
      h.0 ++ blamed at,
      adds-on c.args.output.now b c.blame.new.output h.0 (blamed at) h.1 c.in_ok-blame-in-Err-Refused.ensures.adds,
      subst (FileRuns c.args.file.now (room c.args.output.now)) (blamed_after h.0 (room b) at c.in_ok-blame-in-Err-Refused.ensures.fits) r,
    )
