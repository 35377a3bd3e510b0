use Rattle.search_core.proofs.ShownFates.{shown_code_at}
use Rattle.search_core.proofs.law.code_is_of_the_path.Goals as goal

pub returns : goal.returns
returns c = shown_code_at
