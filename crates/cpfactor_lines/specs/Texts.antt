-- The texts of answers, as bytes. Each line ends with a line feed.
--
--     fraction_text w              `p/q` in lowest terms, also where q is 1
--     term_line term               the line of a term: its weight, then its vector's coordinates
--     factored_text n k            the line `factored n k`
--     factorization_text n terms   that line, then the lines of the k terms
--     refusal words                the line `refused ..`
--     usage_text position          `refused usage POSITION`
--     too_long_text                `refused text TooLong`
--     fault_word kind              the name of the kind of a text's fault
--     fault_text fault             `refused text KIND LINE`
--     operation_word kind          `Mul` or `Add`
--     overflow_text place op       `refused overflow PLACE KIND LEFT RIGHT`, for an operation at a place
--     entry_text path kind i j     `refused overflow Gram PATH KIND I J`, for an entry of the cone of a path
--     wide_text path at            that line, with the kind and the two numbers of the entry
--     owed_text owed               the line of what doesn't fit: one of these, or `refused overflow Bound DIAGONAL`. An
--                                  operation of the ray has the place `Ray`, in its entries and in its clearing
--     depth_text path              `refused depth PATH`
--     pivots_text limit            `refused pivots N`, for the limit of steps
--     value_text z d               the fraction z over d
--     vector_line x                the line of a vector's coordinates
--     vectors_text vectors         the line `vectors c`, then the lines of the c vectors
--     least_text d m               the line `minimum p/q` for m over d
--     minimum_text d m vectors     that line, then the text of the vectors
--     low_text d x z path          `low value p/q path PATH vector x1 x2 ..` for the value z over d
--     copositive_text n            `copositive n`
--     read_text, memory_text       `refused read`, `refused memory`
use Rattle.std.specs.Prelude.{ℕ, ℤ, nat_abs, List, [], ◌∷◌, ◌++◌, length, map, codes}
use Rattle.std.specs.List.{flat_map}
use Rattle.std.specs.Fmt.{decimal, signed_decimal}
use Rattle.exact_forms.specs.Rational.{Rational, ratio}
use Rattle.exact_forms.specs.Factors.{WeightedVector}
use Rattle.symmetric_matrix.specs.declared.operation.IntKind.{IntKind}
use Rattle.symmetric_matrix.specs.declared.operation.IntKind.TheVariants.{Mul, Add}
use Rattle.symmetric_matrix.specs.declared.operation.IntOp.{IntOp}
use Rattle.matrix_text.specs.declared.fault.TextFault.{TextFault}
use Rattle.matrix_text.specs.declared.fault.TextKind.{TextKind}
use Rattle.matrix_text.specs.declared.fault.TextKind.TheVariants.{NotAscii, NoHeader, BadVersion, BadDimension, MissingRow, ShortRow, LongRow, BadNumber, ZeroDenominator, NumberTooLarge, NotSymmetric, ExtraLine}
use Rattle.unimodular_cone.specs.Paths.{Path}
use Rattle.unimodular_cone.specs.declared.WideEntry.{WideEntry}
use Rattle.perfect_walk.specs.declared.journal.Owed.{Owed}
use Rattle.perfect_walk.specs.declared.journal.Owed.TheVariants.{Clear, Inner, Tableau, RayEntry, RayClear, Form}
use Rattle.perfect_walk.specs.declared.journal.Owed.TheVariants.{Scale, Gram, Bound, Weight}
use Rattle.cpfactor_lines.specs.Lines.{line, path_word}

abbrev pub fraction_text : Rational → List ℕ
fraction_text w = signed_decimal w.num ++ 47 ∷ decimal w.den

unfoldable pub term_line : WeightedVector → List ℕ
term_line term = line (fraction_text term.weight ∷ map decimal term.vector)

abbrev pub factored_text : ℕ → ℕ → List ℕ
factored_text n count = line (codes "factored" ∷ decimal n ∷ decimal count ∷ [])

unfoldable pub factorization_text : ℕ → List WeightedVector → List ℕ
factorization_text n terms = factored_text n (length terms) ++ flat_map term_line terms

abbrev pub refusal : List (List ℕ) → List ℕ
refusal words = line (codes "refused" ∷ words)

abbrev pub usage_text : ℕ → List ℕ
usage_text position = refusal (codes "usage" ∷ decimal position ∷ [])

abbrev pub too_long_text : List ℕ
too_long_text = refusal (codes "text" ∷ codes "TooLong" ∷ [])

abbrev pub fault_word : TextKind → List ℕ
fault_word NotAscii = codes "NotAscii"
fault_word NoHeader = codes "NoHeader"
fault_word BadVersion = codes "BadVersion"
fault_word BadDimension = codes "BadDimension"
fault_word MissingRow = codes "MissingRow"
fault_word ShortRow = codes "ShortRow"
fault_word LongRow = codes "LongRow"
fault_word BadNumber = codes "BadNumber"
fault_word ZeroDenominator = codes "ZeroDenominator"
fault_word NumberTooLarge = codes "NumberTooLarge"
fault_word NotSymmetric = codes "NotSymmetric"
fault_word ExtraLine = codes "ExtraLine"

abbrev pub fault_text : TextFault → List ℕ
fault_text fault = refusal (codes "text" ∷ fault_word fault.kind ∷ decimal fault.line ∷ [])

abbrev pub operation_word : IntKind → List ℕ
operation_word Mul = codes "Mul"
operation_word Add = codes "Add"

abbrev pub overflow_text : List ℕ → IntOp → List ℕ
overflow_text place op = refusal (codes "overflow" ∷ place ∷ operation_word op.kind ∷ signed_decimal op.left
    ∷ signed_decimal op.right ∷ [])

abbrev pub entry_text : Path → List ℕ → ℕ → ℕ → List ℕ
entry_text path kind first second = refusal (codes "overflow" ∷ codes "Gram" ∷ path_word path ∷ kind ∷ decimal first
    ∷ decimal second ∷ [])

abbrev pub wide_text : Path → WideEntry → List ℕ
wide_text path (WideEntry.Coordinate generator place) = entry_text path (codes "coordinate") generator place
wide_text path (WideEntry.Gram row column) = entry_text path (codes "gram") row column

abbrev pub owed_text : Owed → List ℕ
owed_text (Clear row column op) = overflow_text (codes "Clear") op
owed_text (Inner op) = overflow_text (codes "Inner") op
owed_text (Tableau entry) = overflow_text (codes "Tableau") entry.op
owed_text (RayEntry entry) = overflow_text (codes "Ray") entry.op
owed_text (RayClear op) = overflow_text (codes "Ray") op
owed_text (Form vector op) = overflow_text (codes "Form") op
owed_text (Scale op) = overflow_text (codes "Scale") op
owed_text (Gram at) = wide_text at.path at.entry
owed_text (Bound diagonal) = refusal (codes "overflow" ∷ codes "Bound" ∷ signed_decimal diagonal ∷ [])
owed_text (Weight vector op) = overflow_text (codes "Weight") op

abbrev pub depth_text : Path → List ℕ
depth_text path = refusal (codes "depth" ∷ path_word path ∷ [])

abbrev pub pivots_text : ℕ → List ℕ
pivots_text limit = refusal (codes "pivots" ∷ decimal limit ∷ [])

abbrev pub value_text : ℤ → ℤ → List ℕ
value_text z d = fraction_text (ratio z (nat_abs d))

unfoldable pub vector_line : List ℕ → List ℕ
vector_line x = line (map decimal x)

abbrev pub vectors_text : List (List ℕ) → List ℕ
vectors_text vectors = line (codes "vectors" ∷ decimal (length vectors) ∷ []) ++ flat_map vector_line vectors

abbrev pub least_text : ℤ → ℤ → List ℕ
least_text d m = line (codes "minimum" ∷ value_text m d ∷ [])

unfoldable pub minimum_text : ℤ → ℤ → List (List ℕ) → List ℕ
minimum_text d m vectors = least_text d m ++ vectors_text vectors

unfoldable pub low_text : ℤ → List ℕ → ℤ → Path → List ℕ
low_text d x z path = line (codes "low" ∷ codes "value" ∷ value_text z d ∷ codes "path" ∷ path_word path
    ∷ codes "vector" ∷ map decimal x)

abbrev pub copositive_text : ℕ → List ℕ
copositive_text n = line (codes "copositive" ∷ decimal n ∷ [])

abbrev pub read_text : List ℕ
read_text = refusal (codes "read" ∷ [])

abbrev pub memory_text : List ℕ
memory_text = refusal (codes "memory" ∷ [])
