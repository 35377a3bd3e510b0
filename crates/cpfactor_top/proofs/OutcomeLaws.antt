-- Laws of the ways in which a call ends that writes an answer.
use Rattle.std.specs.Prelude.{◌≡◌, ◌≢◌, List, ℕ, Result, Ok, Err, IfOk, IfErr}
use Rattle.std.proofs.Common.{inl, inr, subst, sym, refl, ap, ◌∙◌}
use Rattle.cp_outside.specs.declared.sink.PutEnd.{PutEnd}
use Rattle.cp_outside.specs.declared.sink.PutEnd.TheVariants.{Done, Failed, OutOfMemory}
use Rattle.cpfactor_lines.specs.Sinks.{SinkShown, IsQuiet, IsPut}
use Rattle.cpfactor_top.specs.declared.ended.Ended.{Ended}
use Rattle.cpfactor_top.specs.declared.ended.Cause.TheVariants.{ReadFault, WriteFault, Memory}
use Rattle.cpfactor_top.specs.Causes.{ending, EndsWith, HasStatus, IsUndisturbed, cut_off, ended_after}
use Rattle.cpfactor_top.specs.Outcomes.{GivesFront, OrWantsMemory, EndsBy, IsOnly, IsNone}
use Rattle.cpfactor_top.specs.Answers.{YieldsTo}

-- ---- what holds of each answer may be replaced by what follows from it
gives_front : (old new : Ended → List ℕ → Type 0) (shown : SinkShown) (follows : (e : Ended) (text : List ℕ) → old e text → new e text) (due : Ended)
    → GivesFront old shown due → GivesFront new shown due
gives_front old new shown follows due g = record { text = g.text; answer = follows due g.text g.answer; front = g.front }

module _ (old new : Ended → List ℕ → Type 0) (shown : SinkShown) (follows : (e : Ended) (text : List ℕ) → old e text → new e text) where
  or_memory : (e : Ended) (text : List ℕ) → OrWantsMemory old e text → OrWantsMemory new e text
  or_memory e text (inl h) = inl (follows e text h)
  or_memory e text (inr memory) = inr memory

  pub ends_by_follows : (e : Ended) → EndsBy old shown e → EndsBy new shown e
  ends_by_follows e (inl g) = inl (record { text = g.text; answer = follows e g.text g.answer; written = g.written; quiet = g.quiet })
  ends_by_follows e (inr (inl f)) =
      inr (inl (record {
        due = f.due;
        fault = f.fault;
        rose = f.rose;
        front = gives_front (OrWantsMemory old) (OrWantsMemory new) shown or_memory f.due f.front;
      }))
  ends_by_follows e (inr (inr (inl m))) =
      inr (inr (inl (record { due = m.due; memory = m.memory; quiet = m.quiet; front = gives_front old new shown follows m.due m.front })))
  ends_by_follows e (inr (inr (inr m))) = inr (inr (inr m))

-- ---- endings of one answer, and of none
pub ends_by_none : (answers : Ended → List ℕ → Type 0) (shown : SinkShown) (e : Ended) → EndsBy IsNone shown e → EndsBy answers shown e
ends_by_none answers shown e ends = ends_by_follows IsNone answers shown (λ c t never. absurd never) e ends

pub ends_by_only : (answers : Ended → List ℕ → Type 0) (only : Ended) (text : List ℕ) (shown : SinkShown) (e : Ended) → answers only text
    → EndsBy (IsOnly only text) shown e → EndsBy answers shown e
ends_by_only answers only text shown e holds ends =
    ends_by_follows (IsOnly only text) answers shown
    (λ c t is. subst (λ (d : Ended). answers d t) (sym is.0) (subst (λ (u : List ℕ). answers only u) (sym is.1) holds)) e ends

-- the ending of an answer that was put, if there was memory for making its text
pub ends_by_made : {A E : Type 0} (answers : Ended → List ℕ → Type 0) (shown : SinkShown) (e : Ended) (ended : A → Ended) (text : A
    → List ℕ) (made : Result A E)
    → IfOk made (λ r. answers (ended r) (text r)) → IfOk made (λ r. EndsBy (IsOnly (ended r) (text r)) shown e) → IfErr made (λ _. EndsBy IsNone shown e)
    → EndsBy answers shown e
ends_by_made answers shown e ended text (Ok r) holds put wanting = ends_by_only answers (ended r) (text r) shown e holds put
ends_by_made answers shown e ended text (Err fail) holds put wanting = ends_by_none answers shown e wanting

-- ---- an answer that was put
ends_by_put : (e : Ended) (text : List ℕ) (shown : SinkShown) (end : PutEnd) → IsPut text shown end → EndsBy (IsOnly e text) shown (ended_after end e)
ends_by_put e text shown Done put = inl (record { text = text; answer = (refl, refl); written = put.1; quiet = put.0 })
ends_by_put e text shown Failed put =
    inr (inl (record { due = e; fault = refl; rose = put.0; front = record { text = text; answer = inl (refl, refl); front = put.1 } }))
ends_by_put e text shown OutOfMemory put =
    inr (inr (inl (record { due = e; memory = refl; quiet = put.0; front = record { text = text; answer = (refl, refl); front = put.1 } })))

pub ended_by_put : (e given made : Ended) (text : List ℕ) (shown : SinkShown) (end : PutEnd) → given ≡ e → made ≡ ended_after end given → IsPut text shown end
    → EndsBy (IsOnly e text) shown made
ended_by_put e given made text shown end same is put =
    subst (EndsBy (IsOnly e text) shown) (sym (is ∙ ap (ended_after end) same)) (ends_by_put e text shown end put)

-- ---- where one ending alone is due, it is given
ends_with : (cause : _) (due given : Ended) → given ≡ cut_off cause due → EndsWith cause given
ends_with cause due given is = subst (EndsWith cause) (sym is) (refl, refl)

pub ends_yield : (answers : Ended → List ℕ → Type 0) (shown : SinkShown) (due given : Ended) → ((text : List ℕ) → answers given text → given ≡ due)
    → EndsBy answers shown given → YieldsTo due given
ends_yield answers shown due given same (inl g) = inl (same g.text g.answer)
ends_yield answers shown due given same (inr (inl f)) = inr (inl (ends_with WriteFault f.due given f.fault))
ends_yield answers shown due given same (inr (inr (inl m))) = inr (inr (ends_with Memory m.due given m.memory))
ends_yield answers shown due given same (inr (inr (inr m))) = inr (inr (subst (EndsWith Memory) (sym m.memory) (refl, refl)))

-- ---- the status goes with the cause
pub ends_with_status : (answers : Ended → List ℕ → Type 0) (shown : SinkShown) (given : Ended) → ((e : Ended) (text : List ℕ) → answers e text → HasStatus e)
    → EndsBy answers shown given → HasStatus given
ends_with_status answers shown given has (inl g) = has given g.text g.answer
ends_with_status answers shown given has (inr (inl f)) = subst HasStatus (sym f.fault) (inl refl)
ends_with_status answers shown given has (inr (inr (inl m))) = subst HasStatus (sym m.memory) (inl refl)
ends_with_status answers shown given has (inr (inr (inr m))) = subst HasStatus (sym m.memory) (inl refl)

-- ---- what stays where the cause is no fault
pub ends_quietly : (answers : Ended → List ℕ → Type 0) (shown : SinkShown) (given : Ended) → given.cause ≢ WriteFault → EndsBy answers shown given
    → IsQuiet shown
ends_quietly answers shown given other (inl g) = g.quiet
ends_quietly answers shown given other (inr (inl f)) = absurd (other (ap (λ (e : Ended). e.cause) f.fault))
ends_quietly answers shown given other (inr (inr (inl m))) = m.quiet
ends_quietly answers shown given other (inr (inr (inr m))) = m.quiet

-- a read that failed is told, or the answer is cut short
pub ends_disturbed : (text : List ℕ) (shown : SinkShown) (given : Ended) → EndsBy (IsOnly (ending ReadFault) text) shown given → IsUndisturbed given → ⊥
ends_disturbed text shown given (inl g) quiet = quiet.0 (ap (λ (e : Ended). e.cause) g.answer.0)
ends_disturbed text shown given (inr (inl f)) quiet = quiet.1 (ap (λ (e : Ended). e.cause) f.fault)
ends_disturbed text shown given (inr (inr (inl m))) quiet = quiet.2 (ap (λ (e : Ended). e.cause) m.memory)
ends_disturbed text shown given (inr (inr (inr m))) quiet = quiet.2 (ap (λ (e : Ended). e.cause) m.memory)
