-- Bytes have one reading as a verdict.
use Rattle.std.proofs.Common.{◌≡◌, ℕ, List, Result, Ok, Err, refl, sym, ◌∙◌, inl, inr}
use Rattle.cone_tree_certificate.specs.declared.fault.VerdictFault.{VerdictFault}
use Rattle.cone_tree_certificate.specs.declared.verdict.Verdict.{Verdict}
use Rattle.cone_tree_certificate.specs.ProofText.{verdict_of, ProofText, ProofFault, IsProofOfOne, HasOneVerdict}

-- a text of a verdict is one of no other, and has no fault
pub proof-of-one : (bytes : List ℕ) (v : Verdict) → ProofText bytes v → IsProofOfOne bytes v
unfolding ProofText ProofFault
proof-of-one bytes v is = record { text = is; alone = λ w h. same v w (sym is ∙ h); faultless = λ kind line h. apart (sym is ∙ h) }
  where
    same : (a b : Verdict) → ◌≡◌ {A = Result Verdict VerdictFault} (Ok a) (Ok b) → b ≡ a
    same a b e = cc

    apart : {a : Verdict} {fault : VerdictFault} → ◌≡◌ {A = Result Verdict VerdictFault} (Ok a) (Err fault) → ⊥
    apart e = cc

pub one-verdict : (bytes : List ℕ) → HasOneVerdict bytes
unfolding ProofText ProofFault
one-verdict bytes = by (verdict_of bytes) refl
  where
    by : (read : Result Verdict VerdictFault) → verdict_of bytes ≡ read → HasOneVerdict bytes
    by (Ok v) is = inl (v, proof-of-one bytes v is)
    by (Err f) is =
        inr (f, record { fault = is; alone = λ kind line h. same f (record { kind = kind; line = line }) (sym is ∙ h); no_text = λ a h. apart (sym is ∙ h) })
      where
        same : (f g : VerdictFault) → ◌≡◌ {A = Result Verdict VerdictFault} (Err f) (Err g) → (g.kind ≡ f.kind) × (g.line ≡ f.line)
        same f g e = (cc, cc)

        apart : {a : Verdict} {fault : VerdictFault} → ◌≡◌ {A = Result Verdict VerdictFault} (Err fault) (Ok a) → ⊥
        apart e = cc
