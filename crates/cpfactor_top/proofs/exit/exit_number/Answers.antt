use Rattle.cpfactor_top.proofs.exit.exit_number.Goals as goal

pub returns : goal.returns
returns g c = (c.run.result, c.number.ensures, c.run.ensures.status, c.run.ensures.ended)
