use Rattle.std.proofs.Common.{arith, refl, sym, ◌∙◌, List, ℕ, []}
use Rattle.cp_outside.proofs.PutLaws.{appended-[]}
use Rattle.cpfactor_lines.proofs.Fronts.{piece_more, pieces_stopped, pieces_done}
use Rattle.cpfactor_lines.proofs.listing.put_items.Goals as goal

pub loop-k-init : goal.loop-k-init
loop-k-init g c = record { written = sym (appended-[] (g.K.Sink.told c.args.sink.now)); quiet = refl }

pub returns-in_default : goal.returns-in_default
returns-in_default g c =
    pieces_stopped (λ (t : List ℕ). t) (g.L.Listing.lines c.args.list.now) c.loop-k.k [] _ _ _ _ _ _ c.put_item.result c.in_default.not-Done
    (omega (arith, c.loop-k-test.true, c.count-k-end.ensures)) c.loop-k.invariant.written c.loop-k.invariant.quiet c.put_item.ensures

pub loop-k-preserved : goal.loop-k-preserved
loop-k-preserved g c = record {
  written = piece_more (λ (t : List ℕ). t) (g.L.Listing.lines c.args.list.now) c.loop-k.k [] _ _ _ (omega (arith, c.loop-k-test.true, c.count-k-end.ensures))
      c.loop-k.invariant.written c.in-Done.ensures.1;
  quiet = c.in-Done.ensures.0 ∙ c.loop-k.invariant.quiet;
}

pub returns : goal.returns
returns g c = (
  c.loop-k.invariant.quiet,
  pieces_done (λ (t : List ℕ). t) (g.L.Listing.lines c.args.list.now) c.loop-k.k _ _ (omega (arith, c.loop-k-test.false, c.count-k-end.ensures))
      c.loop-k.invariant.written,
)
