use Rattle.std.proofs.Common.{◌∙◌, ℕ, List, sym, subst, refl}
use Rattle.commutative_ring.proofs.SmallCases.{at_most_itself}
use Rattle.cpfactor_lines.specs.Requests.{request_of}
use Rattle.cpfactor_top.specs.Files.{FileShown, file_shown, matrix_file, IsRead, IsFileAnswer}
use Rattle.cpfactor_top.specs.Answers.{answers_of_matrix, answers_of, IsBytesAnswer}
use Rattle.cpfactor_top.proofs.FileLaws.{Encloses, is_read, stays_at_all, never_falls_at_all, unless_failed}
use Rattle.cpfactor_top.proofs.OutcomeLaws.{ends_by_follows}
use Rattle.cpfactor_top.proofs.RequestLaws.{file_among, request_enclosed}
use Rattle.cpfactor_top.proofs.program.answer_file.Goals as goal

pub returns-clause-ended : goal.returns-clause-ended
returns-clause-ended g c =
    let name = c.args.file.now in
    let at : List ℕ → FileShown = file_shown g.F.Files c.args.files.now c.read_file-end.new.self in
    let got : IsRead matrix_file (at name) c.read_file-end.result c.read_file-end.new.into.items =
    is_read matrix_file (at name) c.read_file-end.result c.read_file-end.new.into.items c.read_file-end.ensures.whole c.read_file-end.ensures.within_limit
    c.read_file-end.ensures.too_long c.read_file-end.ensures.failed in
    let read = subst (IsRead matrix_file (at name) c.read_file-end.result) (sym c.deref.ensures.value) got in
    let request = request_of c.args.command in
    let part : List ℕ → FileShown = file_shown g.F.Files c.read_file-end.new.self c.answer_read.new.files in
    let files : List ℕ → FileShown = file_shown g.F.Files c.args.files.now c.answer_read.new.files in
    let all : (n : List ℕ) → Encloses (files n) (part n) = λ n. record {
      told = c.read_file-end.ensures.told_stays n;
      before = never_falls_at_all (g.F.Files.faults c.args.files.now) (g.F.Files.faults c.read_file-end.new.self) name c.read_file-end.ensures.never_falls
          c.read_file-end.ensures.others_stay n;
      after = at_most_itself (g.F.Files.faults c.answer_read.new.files n);
    } in
    let first : Encloses (files name) (at name) = record {
      told = refl;
      before = at_most_itself (g.F.Files.faults c.args.files.now name);
      after = c.answer_read.ensures.never_falls name;
    } in
    ends_by_follows (IsFileAnswer matrix_file (IsBytesAnswer (answers_of_matrix part request)) (at name)) (answers_of request files) _
    (λ e text h. request_enclosed files part all request name c.requires.named (at name) first e text h) _
    (c.answer_read.ensures.ended (at name) read)

pub returns-clause-told_stays : goal.returns-clause-told_stays
returns-clause-told_stays g c name = c.answer_read.ensures.told_stays name ∙ c.read_file-end.ensures.told_stays name

pub returns-clause-others_stay : goal.returns-clause-others_stay
returns-clause-others_stay g c name unnamed =
    c.answer_read.ensures.others_stay name unnamed
    ∙ c.read_file-end.ensures.others_stay name (λ e. file_among (request_of c.args.command) name c.args.file.now c.requires.named unnamed e)

pub returns-clause-quiet : goal.returns-clause-quiet
returns-clause-quiet g c undisturbed name =
    c.answer_read.ensures.quiet undisturbed name
    ∙ stays_at_all (g.F.Files.faults c.args.files.now) (g.F.Files.faults c.read_file-end.new.self) c.args.file.now
    (unless_failed c.read_file-end.result _ (λ e. c.answer_read.ensures.disturbed e undisturbed) c.read_file-end.ensures.quiet)
    c.read_file-end.ensures.others_stay name
