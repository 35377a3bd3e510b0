use Rattle.std.proofs.Common.{sym, subst}
use Rattle.cpfactor_top.specs.Files.{FileShown, file_shown, IsRead}
use Rattle.cpfactor_top.specs.Checking.{proof_file}
use Rattle.cpfactor_top.proofs.FileLaws.{is_read, stays_at_all, never_falls_at_all, unless_failed}
use Rattle.cpfactor_top.proofs.checking.check_file.Goals as goal

pub returns-clause-ended : goal.returns-clause-ended
returns-clause-ended g c =
    let at : FileShown = file_shown g.F.Files c.args.files.now c.read_file-end.new.self c.args.proof.now in
    let got : IsRead proof_file at c.read_file-end.result c.read_file-end.new.into.items =
    is_read proof_file at c.read_file-end.result c.read_file-end.new.into.items c.read_file-end.ensures.whole c.read_file-end.ensures.within_limit
    c.read_file-end.ensures.too_long c.read_file-end.ensures.failed in
    c.check_read.ensures.ended at (subst (IsRead proof_file at c.read_file-end.result) (sym c.deref.ensures.value) got)

pub returns-clause-never_falls : goal.returns-clause-never_falls
returns-clause-never_falls g c =
    never_falls_at_all (g.F.Files.faults c.args.files.now) (g.F.Files.faults c.read_file-end.new.self) c.args.proof.now c.read_file-end.ensures.never_falls
    c.read_file-end.ensures.others_stay

pub returns-clause-quiet : goal.returns-clause-quiet
returns-clause-quiet g c undisturbed =
    stays_at_all (g.F.Files.faults c.args.files.now) (g.F.Files.faults c.read_file-end.new.self) c.args.proof.now
    (unless_failed c.read_file-end.result _ (λ e. c.check_read.ensures.disturbed e undisturbed) c.read_file-end.ensures.quiet)
    c.read_file-end.ensures.others_stay
