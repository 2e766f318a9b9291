-- A list of edges as lists of numbers that give it back, which the model of its type wants. A shape is written
-- as a list of tokens, a junction behind its parts, and read back with a stack.
use Rattle.std.specs.Prelude.{◌≡◌, ℕ, zero, suc, false, List, [], ◌∷◌, map, refl}
use Rattle.std.specs.Coded.{Coded, code_by, coded×, coded_ℕ, coded_list}
use Rattle.std.proofs.Common.{ap, ◌∙◌}
use Rattle.wdf_law.specs.declared.connection.Connection.{Connection}
use Rattle.wdf_law.specs.declared.connection.Connection.TheVariants.{Series, Parallel}
use Rattle.wdf_law.specs.declared.kind.Kind.TheVariants.{Res}
use Rattle.wdf_law.specs.NetworkCode.{Token, coded_token, kind_number, kind_from, flip_number, flip_from, kind_from-kind_number, flip_from-flip_number}
use Rattle.wdf_law.specs.Outline.{Outline, single, joined}
use Rattle.wdf_sp.specs.Reduction.{Arc}

abbrev pub connection_number : Connection → ℕ
connection_number Series = 1
connection_number Parallel = 2

-- the tokens of a shape before others
abbrev pub shape_tokens : Outline → List Token → List Token
shape_tokens (single i k f) rest = (0, (i, (kind_number k, flip_number f))) ∷ rest
shape_tokens (joined c l r) rest = shape_tokens l (shape_tokens r ((connection_number c, (0, (0, 0))) ∷ rest))

-- the two uppermost shapes of a stack joined
abbrev pub top_joined : Connection → List Outline → List Outline
top_joined c [] = []
top_joined c (r ∷ []) = r ∷ []
top_joined c (r ∷ l ∷ stack) = joined c l r ∷ stack

abbrev pub pushed : ℕ → ℕ → ℕ → ℕ → List Outline → List Outline
pushed zero a b c stack = single a (kind_from b) (flip_from c) ∷ stack
pushed (suc zero) a b c stack = top_joined Series stack
pushed (suc (suc n)) a b c stack = top_joined Parallel stack

abbrev pub shapes_read : List Token → List Outline → List Outline
shapes_read [] stack = stack
shapes_read (t ∷ ts) stack = shapes_read ts (pushed t.0 t.1.0 t.1.1.0 t.1.1.1 stack)

abbrev pub top_shape : List Outline → Outline
top_shape [] = single 0 Res false
top_shape (t ∷ stack) = t

pub shapes_read-shape_tokens : (t : Outline) (rest : List Token) (stack : List Outline) → shapes_read (shape_tokens t rest) stack ≡ shapes_read rest (t ∷ stack)
shapes_read-shape_tokens (single i k f) rest stack =
    λ j. shapes_read rest (single i (kind_from-kind_number k j) (flip_from-flip_number f j) ∷ stack)
shapes_read-shape_tokens (joined Series l r) rest stack =
    shapes_read-shape_tokens l (shape_tokens r ((1, (0, (0, 0))) ∷ rest)) stack ∙ shapes_read-shape_tokens r ((1, (0, (0, 0))) ∷ rest) (l ∷ stack)
shapes_read-shape_tokens (joined Parallel l r) rest stack =
    shapes_read-shape_tokens l (shape_tokens r ((2, (0, (0, 0))) ∷ rest)) stack ∙ shapes_read-shape_tokens r ((2, (0, (0, 0))) ∷ rest) (l ∷ stack)

abbrev pub shape_from : List Token → Outline
shape_from ts = top_shape (shapes_read ts [])

pub shape_from-shape_tokens : (t : Outline) → shape_from (shape_tokens t []) ≡ t
shape_from-shape_tokens t = ap top_shape (shapes_read-shape_tokens t [] [])

abbrev pub ArcParts : Type 0
ArcParts = List Token × (ℕ × ℕ)

abbrev pub arc_parts : Arc → ArcParts
arc_parts a = (shape_tokens a.shape [], (a.from, a.to))

abbrev pub arc_from : ArcParts → Arc
arc_from p = record { shape = shape_from p.0; from = p.1.0; to = p.1.1 }

abbrev pub all_parts : List Arc → List ArcParts
all_parts es = map arc_parts es

abbrev pub all_from : List ArcParts → List Arc
all_from ps = map arc_from ps

pub all_from-all_parts : (es : List Arc) → all_from (all_parts es) ≡ es
all_from-all_parts [] = refl
all_from-all_parts (a ∷ es) = λ j. record { shape = shape_from-shape_tokens a.shape j; from = a.from; to = a.to } ∷ all_from-all_parts es j

abbrev pub arcs_code : Coded (List Arc)
arcs_code = code_by (List ArcParts) (coded_list (coded× (coded_list coded_token) (coded× coded_ℕ coded_ℕ))) all_parts all_from all_from-all_parts
