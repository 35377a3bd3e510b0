use Rattle.std.proofs.Common.{◌≡◌, ℕ, arith, ap, sym, subst, ◌∙◌, length, map, List}
use Rattle.symmetric_matrix.specs.Symmetric.{entry}
use Rattle.cone_pool.specs.Lots.{Deque, Token, deque_of, token_on, lot_deque}
use Rattle.cone_pool.specs.Parts.{Member, deques_of}
use Rattle.cone_pool.specs.Crews.{lot_of, AreLent}
use Rattle.cone_pool.proofs.Handing.{deques_by_core, deques_of_tokens, nothing_taken}
use Rattle.cone_pool.proofs.Pooling.{new_lots, readies, overs, lents, deques_kept, same_sums, all_sums, all_back, rest_alike, done_alike}
use Rattle.cone_pool.proofs.pool.share.Goals as goal

pub hand_out-requires : goal.hand_out-requires
hand_out-requires g c = new_lots c.args.table.now.id 1 c.args.members.now c.requires.new

pub work_all-requires-clause-ready : goal.work_all-requires-clause-ready
work_all-requires-clause-ready g c κs within =
    let old : List Member = c.args.members.now in
    let now : List Member = c.hand_out.new.members in
    let ts : List Token = map token_on (map lot_of old) in
    let ds : List Deque = deques_of c.as_slice.result.now in
    let on : map deque_of ts ≡ ds =
    deques_of_tokens (map lot_of old) ∙ sym (deques_by_core (map lot_of now) (map lot_of old) c.in_ok-hand_out.ensures.cores) ∙ sym c.in_ok-stealers.ensures
    ∙ ap deques_of (sym c.as_slice.ensures.value) in
    readies c.args.mode c.args.q.now.size (entry c.args.q.now) c.args.limit c.args.table.now.id ds ts 1 (length old) (length old) old now
    (λ p. nothing_taken p (map lot_of old)) on c.requires.new c.in_ok-hand_out.ensures.rest c.in_ok-hand_out.ensures.cores c.in_ok-hand_out.ensures.lots
    (omega arith)

pub take_back-requires : goal.take_back-requires
take_back-requires g c =
    let old : List Member = c.args.members.now in
    let now : List Member = c.hand_out.new.members in
    let new : List Member = c.work_all.new.members in
    let ts : List Token = map token_on (map lot_of old) in
    let ds : List Deque = map lot_deque (map lot_of new) in
    let many : length new ≡ length now = omega arith in
    let total : length old ≡ length new = omega arith in
    let on : map deque_of ts ≡ ds =
    deques_of_tokens (map lot_of old) ∙ sym (deques_by_core (map lot_of now) (map lot_of old) c.in_ok-hand_out.ensures.cores)
    ∙ sym (deques_kept c.args.mode c.args.q.now.size (entry c.args.q.now) c.args.limit now new many c.work_all.ensures) in
    subst (λ (o : ℕ). AreLent ds 0 o (map lot_of new)) total
    (lents c.args.mode c.args.q.now.size (entry c.args.q.now) c.args.limit ds ts (length old) (length old) now new on c.in_ok-hand_out.ensures.lots
    (omega arith) many c.work_all.ensures)

pub returns-clause-returned : goal.returns-clause-returned
returns-clause-returned g c =
    let many : length c.work_all.new.members ≡ length c.hand_out.new.members = omega arith in
    all_back c.args.mode c.args.q.now.size (entry c.args.q.now) c.args.limit c.args.table.now.id 1 _
    (length c.work_all.new.members) c.work_all.new.members c.take_back.new.members
    (overs c.args.mode c.args.q.now.size (entry c.args.q.now) c.args.limit c.args.table.now.id 1 c.args.members.now c.hand_out.new.members
    c.work_all.new.members c.requires.new c.in_ok-hand_out.ensures.rest many c.work_all.ensures)
    c.take_back.ensures.rest c.take_back.ensures.lots (omega arith)

pub returns-clause-sums : goal.returns-clause-sums
returns-clause-sums g c = λ p.
    let many : length c.work_all.new.members ≡ length c.hand_out.new.members = omega arith in
    same_sums p c.work_all.new.members c.take_back.new.members _ c.take_back.ensures.rest (c.take_back.ensures.taken p) (c.take_back.ensures.put p)
    (all_sums c.args.mode c.args.q.now.size (entry c.args.q.now) c.args.limit p c.args.table.now.id c.work_all.new.members
    (overs c.args.mode c.args.q.now.size (entry c.args.q.now) c.args.limit c.args.table.now.id 1 c.args.members.now c.hand_out.new.members
    c.work_all.new.members c.requires.new c.in_ok-hand_out.ensures.rest many c.work_all.ensures)
    (omega arith))

pub returns-clause-alike : goal.returns-clause-alike
returns-clause-alike g c = λ whole h.
    rest_alike whole c.work_all.new.members c.take_back.new.members c.take_back.ensures.rest
    (done_alike c.args.mode c.args.q.now.size (entry c.args.q.now) c.args.limit whole c.hand_out.new.members c.work_all.new.members (omega arith)
    c.work_all.ensures (rest_alike whole c.args.members.now c.hand_out.new.members c.in_ok-hand_out.ensures.rest h))
