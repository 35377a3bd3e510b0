use Rattle.cpfactor_top.specs.Sampling.{IsSampleAnswer}
use Rattle.cpfactor_top.proofs.OutcomeLaws.{ends_by_made}
use Rattle.cpfactor_top.proofs.sampling.sample_with.Goals as goal

pub returns : goal.returns
returns g c =
    ends_by_made (IsSampleAnswer c.args.n c.args.k c.args.first) _ _ (λ r. r.0) (λ r. r.1.items) c.sample_text.result c.sample_text.ensures
    c.put_answer.ensures.put c.put_answer.ensures.wanting
