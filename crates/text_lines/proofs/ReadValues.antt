-- What is known of a value that was read.
use Rattle.std.proofs.Common.{◌≡◌, ℕ, zero, suc, ◌+◌, ◌<◌, ◌≤◌, ◌^◌, Bool, true, false, not, ◌&&◌, ◌||◌, cond, ltb, List, [], ◌∷◌, length, take, drop, position}
use Rattle.std.proofs.Common.{Option, Some, None, ℤ, pos, neg_ℤ, nat_abs, Result, Ok, Err, codes, refl, sym, ap, subst, ◌∙◌, arith, eq-eqb}
use Rattle.std.specs.List.{AllByRecursion}
use Rattle.std.proofs.lemmas.Bool.{or_parts, and_parts, ltb-false, false≢true}
use Rattle.std.proofs.Math.Nat.{div-le_self}
use Rattle.commutative_ring.specs.Gcd.{gcd_of}
use Rattle.commutative_ring.proofs.Lowest.{nat_abs-divided}
use Rattle.exact_forms.specs.Rational.{Rational, ratio}
use Rattle.text_lines.specs.Lines.{words, TextLine}
use Rattle.text_lines.specs.Numbers.{is_whole, whole_value, is_signed, magnitude, signed_value, begins_with_minus}
use Rattle.text_lines.specs.Readings.{◌>>=◌, numbers_of, is_ascii, at_line, in_line, Many, first_line, many}
use Rattle.text_lines.specs.Fractions.{whole_up_to, signed_up_to, ratio_up_to, is_slash, parted, fraction_up_to}
use Rattle.text_lines.specs.declared.fractions.NumberFault.{NumberFault}
use Rattle.text_lines.specs.declared.fractions.NumberFault.TheVariants.{NotNumber, TooLarge, ZeroDenominator}
use Rattle.text_lines.proofs.FractionTexts.{IsWithin}

pub bind_ok : {A B E : Type 0} (r : Result A E) (f : A → Result B E) (y : B) → (r >>= f) ≡ Ok y → (x : A) × (r ≡ Ok x) × (f x ≡ Ok y)
bind_ok (Ok x) f y e = (x, refl, e)
bind_ok (Err d) f y e = absurd cc

pub guard_ok : {A E : Type 0} (b : Bool) (d : E) (r : Result A E) (y : A) → cond b (Err d) r ≡ Ok y → (b ≡ false) × (r ≡ Ok y)
guard_ok true d r y e = absurd cc
guard_ok false d r y e = (refl, e)

pub ok_is : {A E : Type 0} (x y : A) → ◌≡◌ {A = Result A E} (Ok x) (Ok y) → x ≡ y
ok_is x y e = cc

-- ---- a word

pub magnitude-value : (b : Bool) (m : ℕ) → nat_abs (cond b (neg_ℤ (pos m)) (pos m)) ≡ m
magnitude-value true zero = refl
magnitude-value true (suc m) = refl
magnitude-value false m = refl

pub whole-within : (limit : ℕ) (word : List ℕ) (n : ℕ) → whole_up_to limit word ≡ Ok n → n ≤ limit
unfolding whole_up_to
whole-within limit word n e =
    let a = guard_ok (not (is_whole word)) NotNumber _ n e in
    let b = guard_ok (ltb limit (whole_value word)) TooLarge _ n a.1 in
    rw (← ok_is {E = NumberFault} (whole_value word) n b.1) (ltb-false limit (whole_value word) b.0)

pub signed-within : (limit : ℕ) (word : List ℕ) (z : ℤ) → signed_up_to limit word ≡ Ok z → nat_abs z ≤ limit
unfolding signed_up_to signed_value
signed-within limit word z e =
    let a = guard_ok (not (is_signed word)) NotNumber _ z e in
    let b = guard_ok (ltb limit (magnitude word)) TooLarge _ z a.1 in
    rw (← ok_is {E = NumberFault} (signed_value word) z b.1, magnitude-value (begins_with_minus word) (magnitude word)) (ltb-false limit (magnitude word) b.0)

-- lowest terms are no larger
ratio-within : (limit : ℕ) (p : ℤ) (d : ℕ) → limit < 2 ^ 127 → nat_abs p ≤ limit → d ≤ limit → (d ≡ 0 → ⊥) → IsWithin limit (ratio p d)
unfolding ratio
ratio-within limit p zero low h k some = absurd (some refl)
ratio-within limit p (suc d) low h k some = record {
  low = low;
  num = rw (nat_abs-divided p (gcd_of (nat_abs p) (suc d))) (let less = div-le_self (nat_abs p) (gcd_of (nat_abs p) (suc d)) in omega (arith, less));
  den = (let less = div-le_self (suc d) (gcd_of (nat_abs p) (suc d)) in omega (arith, less));
}

words-within : (limit : ℕ) (top bottom : List ℕ) (x : Rational) → limit < 2 ^ 127 → ratio_up_to limit top bottom ≡ Ok x → IsWithin limit x
unfolding ratio_up_to signed_value
words-within limit top bottom x low e =
    let a = guard_ok (not (is_signed top && is_whole bottom)) NotNumber _ x e in
    let b = guard_ok (ltb limit (magnitude top) || ltb limit (whole_value bottom)) TooLarge _ x a.1 in
    let z = guard_ok _ ZeroDenominator _ x b.1 in
    let parts = or_parts _ _ b.0 in
    let top_small : magnitude top ≤ limit = ltb-false _ _ parts.0 in
    let bottom_small : whole_value bottom ≤ limit = ltb-false _ _ parts.1 in
    let some : whole_value bottom ≡ 0 → ⊥ = λ zero. false≢true (sym z.0 ∙ eq-eqb (whole_value bottom) 0 zero) in
    let num : nat_abs (signed_value top) ≤ limit = rw (magnitude-value (begins_with_minus top) (magnitude top)) top_small in
    subst (IsWithin limit) (ok_is {E = NumberFault} (ratio (signed_value top) (whole_value bottom)) x z.1)
    (ratio-within limit (signed_value top) (whole_value bottom) low num bottom_small some)

parted-within : (limit : ℕ) (word : List ℕ) (at : Option ℕ) (x : Rational) → limit < 2 ^ 127 → parted limit word at ≡ Ok x → IsWithin limit x
parted-within limit word None x low e = words-within limit word (codes "1") x low e
parted-within limit word (Some k) x low e = words-within limit (take k word) (drop (k + 1) word) x low e

pub fraction-within : (limit : ℕ) (word : List ℕ) (x : Rational) → limit < 2 ^ 127 → fraction_up_to limit word ≡ Ok x → IsWithin limit x
unfolding fraction_up_to
fraction-within limit word x low e = parted-within limit word (position is_slash word) x low e

-- ---- a line

-- as many numbers as were asked for, each as its word gives it
pub record IsEach {A : Type 0} (P : A → Type 0) (n : ℕ) (xs : List A) : Type 0 where
  pub len : length xs ≡ n
  pub each : AllByRecursion P xs

pub numbers-each : {A K : Type 0} (P : A → Type 0) (read : List ℕ → Result A K) (short long : K) → ((word : List ℕ) (x : A) → read word ≡ Ok x → P x)
    → (n : ℕ) (ws : List (List ℕ)) (xs : List A) → numbers_of read short long n ws ≡ Ok xs → IsEach P n xs
unfolding numbers_of
numbers-each {K} P read short long good zero [] xs e = subst (IsEach P 0) (ok_is {E = K} [] xs e) (record { len = refl; each = tt })
numbers-each P read short long good zero (w ∷ ws) xs e = absurd cc
numbers-each P read short long good (suc n) [] xs e = absurd cc
numbers-each {K} P read short long good (suc n) (w ∷ ws) xs e =
    let a = bind_ok (read w) (λ number. numbers_of read short long n ws >>= λ numbers. Ok (number ∷ numbers)) xs e in
    let b = bind_ok (numbers_of read short long n ws) (λ numbers. Ok (a.0 ∷ numbers)) xs a.2 in
    let rest = numbers-each P read short long good n ws b.0 b.1 in
    subst (IsEach P (suc n)) (ok_is {E = K} (a.0 ∷ b.0) xs b.2) (record { len = ap suc rest.len; each = (good w a.0 a.1, rest.each) })

at_line-ok : {A K F : Type 0} (fault : K → ℕ → F) (line : ℕ) (r : Result A K) (x : A) → at_line fault line r ≡ Ok x → r ≡ Ok x
at_line-ok {F} fault line (Ok y) x e = ap (λ v. Ok v) (ok_is {E = F} y x e)
at_line-ok fault line (Err k) x e = absurd cc

ascii-ok : {A K : Type 0} (b : Bool) (foreign : K) (r : Result A K) (x : A) → cond b r (Err foreign) ≡ Ok x → r ≡ Ok x
ascii-ok true foreign r x e = e
ascii-ok false foreign r x e = absurd cc

pub line-ok : {A K F : Type 0} (fault : K → ℕ → F) (foreign : K) (read : List (List ℕ) → Result A K) (line : TextLine) (x : A)
    → in_line fault foreign read line ≡ Ok x → read (words line.bytes) ≡ Ok x
unfolding in_line
line-ok fault foreign read line x e = ascii-ok (is_ascii line.bytes) foreign (read (words line.bytes)) x (at_line-ok fault line.number _ x e)

-- ---- lines

pub first-ok : {A F : Type 0} (P : A → Type 0) (read : TextLine → Result A F) (missing : F) → ((line : TextLine) (x : A) → read line ≡ Ok x → P x)
    → (ls : List TextLine) (first : A × List TextLine) → first_line read missing ls ≡ Ok first → P first.0
first-ok P read missing good [] first e = absurd cc
first-ok {A} {F} P read missing good (l ∷ ls) first e =
    let a = bind_ok (read l) (λ x. Ok (x, ls)) first e in
    subst (λ (f : A × List TextLine). P f.0) (ok_is {E = F} (a.0, ls) first a.2) (good l a.0 a.1)

pub many-each : {A F : Type 0} (P : A → Type 0) (read : TextLine → Result A F) (missing : F) → ((line : TextLine) (x : A) → read line ≡ Ok x → P x)
    → (k : ℕ) (ls : List TextLine) (m : Many A) → many read missing k ls ≡ Ok m → IsEach P k m.items
unfolding many
many-each {A} {F} P read missing good zero ls m e =
    subst (λ (m : Many A). IsEach P 0 m.items) (ok_is {E = F} (record { items = []; rest = ls }) m e) (record { len = refl; each = tt })
many-each {A} {F} P read missing good (suc k) ls m e =
    let a = bind_ok (first_line read missing ls) (λ first. many read missing k first.1
    >>= λ others. Ok (record { items = first.0 ∷ others.items; rest = others.rest })) m e in
    let b = bind_ok (many read missing k a.0.1) (λ others. Ok (record { items = a.0.0 ∷ others.items; rest = others.rest })) m a.2 in
    let rest = many-each P read missing good k a.0.1 b.0 b.1 in
    subst (λ (m : Many A). IsEach P (suc k) m.items) (ok_is {E = F} (record { items = a.0.0 ∷ b.0.items; rest = b.0.rest }) m b.2)
    (record { len = ap suc rest.len; each = (first-ok P read missing good ls a.0 a.1, rest.each) })
