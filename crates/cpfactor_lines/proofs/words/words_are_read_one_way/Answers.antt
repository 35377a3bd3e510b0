use Rattle.cpfactor_lines.proofs.NearFaults.{usage-le}
use Rattle.cpfactor_lines.proofs.OneWay.{read_one_way}
use Rattle.cpfactor_lines.proofs.words.words_are_read_one_way.Goals as goal

pub returns : goal.returns
returns c = record { one_way = read_one_way; near = usage-le }
