use Rattle.std.proofs.Common.{ℕ, List, [], Result, Ok, ap, ◌≡◌, ◌-◌, ◌∙◌, sym, refl, arith, take, length}
use Rattle.std.proofs.lemmas.Result.{err_from_is_err_and}
use Rattle.std.proofs.lemmas.List.{length-set, take_more_set, map_push}
use Rattle.text_lines.specs.Lines.{TextLine}
use Rattle.text_lines.specs.Readings.{Many, many}
use Rattle.text_lines.proofs.Counted.{after_many, many_none, many_more, many_end}
use Rattle.cone_tree_certificate.specs.ProofText.{NumberedRow, missing_line, numbered_row}
use Rattle.cone_tree_certificate.specs.declared.fault.VerdictFault.{VerdictFault}
use Rattle.cone_tree_certificate.specs.Rows.{seen_row, seen_rows}
use Rattle.cone_tree_certificate.proofs.Steps.{many_refused, refused_same, rows_more}
use Rattle.cone_tree_certificate.proofs.lines.rows_in.Goals as goal

pub loop-index-init : goal.loop-index-init
loop-index-init c = let k : c.args.n - 0 ≡ c.args.n = omega arith in
    record { reading = record { so_far = rw k (many_none [] _ refl); end = refl }; room = refl }

pub loop-index-preserved : goal.loop-index-preserved
loop-index-preserved c =
    let is = rw c.loop-index.invariant.reading.end at c.in_ok-rows.ensures.read in
    record {
      reading = record {
        so_far = many_more (numbered_row c.args.n) (missing_line c.args.lines.now.end) (seen_rows c.args.n (take c.loop-index.index c.loop-index.rows)) _
            c.args.n
            c.loop-index.index c.loop-index.lines.lines c.next_row.new.lines.lines (seen_row c.args.n c.in_ok-rows.field-0) c.loop-index-test.true is
            (rows_more c.args.n c.loop-index.rows c.loop-index.index c.in_ok-rows.field-0 (let room = c.loop-index.invariant.room in omega (arith, room)))
            ∙ c.loop-index.invariant.reading.so_far;
        end = c.next_row.ensures.end ∙ c.loop-index.invariant.reading.end;
      };
      room = length-set c.loop-index.rows _ _ ∙ c.loop-index.invariant.room;
    }

pub returns-in_err-rows-clause-read : goal.returns-in_err-rows-clause-read
returns-in_err-rows-clause-read c =
    let p = err_from_is_err_and c.from_residual.result c.from_residual.ensures.1 in
    let is = rw c.loop-index.invariant.reading.end at c.in_err-rows.ensures.read in
    rw (p.1, p.2)
    (refused_same
    (after_many (seen_rows c.args.n (take c.loop-index.index c.loop-index.rows))
    (many (numbered_row c.args.n) (missing_line c.args.lines.now.end) (c.args.n - c.loop-index.index) c.loop-index.lines.lines))
    (many (numbered_row c.args.n) (missing_line c.args.lines.now.end) c.args.n c.args.lines.now.lines) c.in_err-rows.field-0.0
    (sym c.loop-index.invariant.reading.so_far)
    (many_refused (numbered_row c.args.n) (missing_line c.args.lines.now.end) (seen_rows c.args.n (take c.loop-index.index c.loop-index.rows)) c.args.n
    c.loop-index.index c.loop-index.lines.lines c.in_err-rows.field-0.0 c.loop-index-test.true is))

pub returns-in_err-rows-clause-end : goal.returns-in_err-rows-clause-end
returns-in_err-rows-clause-end c = c.next_row.ensures.end ∙ c.loop-index.invariant.reading.end

pub returns-clause-read : goal.returns-clause-read
returns-clause-read c =
    let auto = c.loop-index.auto.index-end in
    let test = c.loop-index-test.false in
    let all : c.loop-index.index ≡ c.args.n = omega (arith, auto, test) in
    sym c.loop-index.invariant.reading.so_far
    ∙ many_end (numbered_row c.args.n) (missing_line c.args.lines.now.end) (seen_rows c.args.n (take c.loop-index.index c.loop-index.rows)) c.args.n
    c.loop-index.index c.loop-index.lines.lines c.loop-index-test.false
    ∙ ap (λ (i : ℕ). made (seen_rows c.args.n (take i c.loop-index.rows)) c.loop-index.lines.lines) all
  where
    made : List NumberedRow → List TextLine → Result (Many NumberedRow) VerdictFault
    made items rest = Ok (record { items = items; rest = rest })
