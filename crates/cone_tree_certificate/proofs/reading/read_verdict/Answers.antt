use Rattle.cone_tree_certificate.proofs.Wholes.{text_reads, writable_reads, checkable_reads, fault_reads}
use Rattle.cone_tree_certificate.proofs.reading.read_verdict.Goals as goal

pub returns-clause-ok : goal.returns-clause-ok
returns-clause-ok c = text_reads c.args.bytes.now c.verdict_in.result c.verdict_in.ensures

pub returns-clause-writable : goal.returns-clause-writable
returns-clause-writable c = writable_reads c.args.bytes.now c.verdict_in.result c.verdict_in.ensures

pub returns-clause-checkable : goal.returns-clause-checkable
returns-clause-checkable c = checkable_reads c.args.bytes.now c.verdict_in.result c.verdict_in.ensures

pub returns-clause-fault : goal.returns-clause-fault
returns-clause-fault c = fault_reads c.args.bytes.now c.verdict_in.result c.verdict_in.ensures
