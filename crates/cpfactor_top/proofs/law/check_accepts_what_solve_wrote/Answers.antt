use Rattle.cpfactor_top.proofs.Accepting.{check_accepts}
use Rattle.cpfactor_top.proofs.law.check_accepts_what_solve_wrote.Goals as goal

pub returns : goal.returns
returns c = check_accepts
