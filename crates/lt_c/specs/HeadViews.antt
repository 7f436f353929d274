-- Trees of functions at the head, without pointers.
use Rattle.lt_c.specs.declared.terms.Variable.{Variable}
use Rattle.lt_c.specs.declared.terms.Variable.TheVariants.{A, B, X, Y, Z}
use Rattle.lt_c.specs.declared.terms.Arithmetic.{Arithmetic as Operation}
use Rattle.lt_c.specs.declared.terms.Arithmetic.TheVariants.{AddBits, SubtractBits, MultiplyBits, BitsRest, Subtract, Divide, Rest}
use Rattle.lt_c.specs.declared.terms.Comparison.{Comparison as Test}
use Rattle.lt_c.specs.declared.terms.Comparison.TheVariants.{Equal, Less, Most, MostBits}
use Rattle.lt_c.specs.declared.terms.Aid.{Aid as Called}
use Rattle.lt_c.specs.declared.terms.Aid.TheVariants.{Signed, Negative, Size}
use Rattle.lt_c.specs.declared.terms.Term as t
use Rattle.lt_c.specs.declared.terms.Term.{Term as TermTree}
use Rattle.lt_c.specs.declared.terms.Step as s
use Rattle.lt_c.specs.declared.terms.Step.{Step}
use Rattle.lt_c.specs.Head.{Local, in_a, in_b, own_x, own_y, own_z, Arithmetic, bits_add, bits_sub, bits_mul, bits_rest, int_sub, int_over, int_rest, Comparison, ints_equal, ints_less, ints_most, bits_most, Aid, aid_signed, aid_neg, aid_size, Term, t_local, t_int, t_bits, t_to_bits, t_to_int, t_join, t_choice, t_call, Act, a_skip, a_declare, a_set, a_both, a_while}

abbrev pub local_of : Variable → Local
local_of A = in_a
local_of B = in_b
local_of X = own_x
local_of Y = own_y
local_of Z = own_z

abbrev pub arithmetic_of : Operation → Arithmetic
arithmetic_of AddBits = bits_add
arithmetic_of SubtractBits = bits_sub
arithmetic_of MultiplyBits = bits_mul
arithmetic_of BitsRest = bits_rest
arithmetic_of Subtract = int_sub
arithmetic_of Divide = int_over
arithmetic_of Rest = int_rest

abbrev pub comparison_of : Test → Comparison
comparison_of Equal = ints_equal
comparison_of Less = ints_less
comparison_of Most = ints_most
comparison_of MostBits = bits_most

abbrev pub aid_of : Called → Aid
aid_of Signed = aid_signed
aid_of Negative = aid_neg
aid_of Size = aid_size

abbrev pub term_of : TermTree → Term
term_of (t.Local x) = t_local (local_of x)
term_of (t.Int z) = t_int z
term_of (t.Bits n) = t_bits n
term_of (t.ToBits' p a) = t_to_bits (term_of a)
term_of (t.ToInt' p a) = t_to_int (term_of a)
term_of (t.Join' o p a q b) = t_join (arithmetic_of o) (term_of a) (term_of b)
term_of (t.Choice' o p a q b r c u d) = t_choice (comparison_of o) (term_of a) (term_of b) (term_of c) (term_of d)
term_of (t.Call' k p a) = t_call (aid_of k) (term_of a)

abbrev pub act_of : Step → Act
act_of s.Skip = a_skip
act_of (s.Declare x e) = a_declare (local_of x) (term_of e)
act_of (s.Set x e) = a_set (local_of x) (term_of e)
act_of (s.Both' p a q b) = a_both (act_of a) (act_of b)
act_of (s.While' x p a) = a_while (local_of x) (act_of a)
