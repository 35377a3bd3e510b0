use Rattle.std.proofs.Common.{◌≡◌, ◌∙◌, ◌+◌, ◌<◌, false, sym, ap, subst, None, arith, rules}
use Rattle.std.specs.Option.{option_and_then}
use Rattle.std.specs.Prelude.{option_map}
use Rattle.cpfactor_lines.specs.Arguments.{wanted, word_at, is_option, is_plain, option_named}
use Rattle.cpfactor_lines.specs.Requests.{texts, form_of, option_of, options_of}
use Rattle.cpfactor_lines.specs.declared.row.OptionRow.{OptionRow}
use Rattle.cpfactor_lines.proofs.Rows.{text_at, none_of, wanted-next, is_plain-argument, is_plain-option, is_plain-value}
use Rattle.cpfactor_lines.specs.ReaderStates.{most_plain, HasRead}
use Rattle.cpfactor_lines.specs.declared.arguments.ArgumentReader.{ArgumentReader}
use Rattle.cpfactor_lines.proofs.ReaderSteps.{HasRead-plain, HasRead-other, HasRead-room}
use Rattle.cpfactor_lines.proofs.arguments.ArgumentReader.advance.Goals as goal
use Rattle.cpfactor_lines.proofs.arguments.ArgumentReader.advance.Goals.{After-is_option, then-is_none+then-not-is_option, else-is_none}
use Rattle.cpfactor_lines.proofs.arguments.ArgumentReader.advance.Goals.{else-is_none-via-then-is_none+else-not-is_option, else-is_none-via-else-is_none}

-- there is room for the place of a plain argument
room_here : (c : After-is_option) → c.is_option.result ≡ false → c.args.self.now.count < most_plain
room_here c plain =
    let at : word_at (texts c.args.words.now) c.args.place ≡ c.as_str-word.result.now =
    text_at c.args.words.now c.args.place c.index-words-place.result c.requires.within c.index-words-place.is ∙ sym c.as_str-word.ensures.value in
    HasRead-room c.args.row.now (texts c.args.words.now) c.args.place c.args.self.now c.requires.stands c.if-is_none.ensures
    (ap is_option at ∙ sym c.is_option.ensures ∙ plain) c.requires.reads c.requires.few

pub offset_bounds-self-self : goal.offset_bounds-self-self
offset_bounds-self-self c =
    let at = goal.at.offset_bounds-self-self c in
    omega (arith, room_here at.After-is_option c.if-not-is_option.true)

pub bounds-self-self : goal.bounds-self-self
bounds-self-self c =
    let at = goal.at.bounds-self-self c in
    omega (arith, room_here at.After-is_option c.if-not-is_option.true)

pub overflow_add-self : goal.overflow_add-self
overflow_add-self c =
    let at = goal.at.overflow_add-self c in
    omega (arith, room_here at.After-is_option c.if-not-is_option.true)

pub returns : goal.returns
returns c =
    let words = texts c.args.words.now in
    let options = options_of c.args.row.now in
    let at : word_at words c.args.place ≡ c.as_str-word.result.now =
    text_at c.args.words.now c.args.place c.index-words-place.result c.requires.within c.index-words-place.is ∙ sym c.as_str-word.ensures.value in
    let named : option_map option_of c.option_named.result ≡ option_named options (word_at words c.args.place) = c.option_named.ensures
    ∙ ap (option_named options) (sym at) in
    let next : c.and_then-self.result ≡ option_and_then (λ (o : OptionRow). o.value) c.option_named.result = search rules in
    let waits : option_map form_of c.and_then-self.result ≡ wanted options words (c.args.place + 1) = ap (option_map form_of) next
    ∙ wanted-next options words c.args.place c.option_named.result named in
    let stands = c.requires.stands in
    elim c.if-is_none.branch [
      | then-is_none+then-not-is_option w ↦
          let is : wanted options words c.args.place ≡ None = sym stands.waits
          ∙ ap (option_map form_of) (none_of c.args.self.now.wanted w.if-is_none.ensures) in
          let other : is_option (word_at words c.args.place) ≡ false = ap is_option at ∙ sym w.is_option.ensures ∙ w.if-not-is_option.true in
          let room = HasRead-room c.args.row.now words c.args.place c.args.self.now stands w.if-is_none.ensures other c.requires.reads c.requires.few in
          subst (λ (s : ArgumentReader).
          HasRead c.args.row.now words (c.args.place + 1) (record { wanted = c.and_then-self.result; count = s.count; places = s.places }))
          (sym w.self-is)
          (HasRead-plain c.args.row.now words c.args.place c.args.self.now c.and_then-self.result stands (is_plain-argument options words c.args.place is other)
          room waits)
      | else-is_none w ↦
          let other : is_plain options words c.args.place ≡ false = elim w.else-is_none.branch [
            | else-is_none-via-then-is_none+else-not-is_option v ↦ is_plain-option options words c.args.place (ap is_option at ∙ sym v.is_option.ensures
                ∙ v.if-not-is_option.false)
            | else-is_none-via-else-is_none v ↦ is_plain-value options words c.args.place c.args.self.now.wanted stands.waits v.if-is_none.ensures
          ] in
          subst (λ (s : ArgumentReader).
          HasRead c.args.row.now words (c.args.place + 1) (record { wanted = c.and_then-self.result; count = s.count; places = s.places }))
          (sym w.self-is)
          (HasRead-other c.args.row.now words c.args.place c.args.self.now c.and_then-self.result stands other waits)
    ]
