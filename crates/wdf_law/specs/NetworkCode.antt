-- A network as a tuple of numbers and lists that gives it back, which the model of its type wants. A tree is
-- written as a list of tokens, a junction behind its parts, and read back with a stack.
use Rattle.std.specs.Prelude.{◌≡◌, ℕ, zero, suc, Bool, true, false, List, [], ◌∷◌, refl}
use Rattle.std.specs.Coded.{Coded, code_by, coded×, coded_ℕ, coded_list}
use Rattle.std.proofs.Common.{ap, ◌∙◌}
use Rattle.wdf_law.specs.declared.kind.Kind.{Kind}
use Rattle.wdf_law.specs.declared.kind.Kind.TheVariants.{Res, Cap, Ind, Src}
use Rattle.wdf_law.specs.declared.outlet.Outlet.{Outlet}
use Rattle.wdf_law.specs.declared.outlet.Outlet.TheVariants.{Load, Source}
use Rattle.wdf_law.specs.Trees.{AdaptorTree, leaf, series, parallel}
use Rattle.wdf_law.specs.Network.{Network}

-- a tag, and up to three numbers
abbrev pub Token : Type 0
Token = ℕ × (ℕ × (ℕ × ℕ))

abbrev pub kind_number : Kind → ℕ
kind_number Res = 0
kind_number Cap = 1
kind_number Ind = 2
kind_number Src = 3

abbrev pub kind_from : ℕ → Kind
kind_from zero = Res
kind_from (suc zero) = Cap
kind_from (suc (suc zero)) = Ind
kind_from (suc (suc (suc n))) = Src

abbrev pub flip_number : Bool → ℕ
flip_number true = 1
flip_number false = 0

abbrev pub flip_from : ℕ → Bool
flip_from zero = false
flip_from (suc n) = true

-- the tokens of a tree before others
abbrev pub written : AdaptorTree → List Token → List Token
written (leaf i k f) rest = (0, (i, (kind_number k, flip_number f))) ∷ rest
written (series m l r) rest = written l (written r ((1, (m, (0, 0))) ∷ rest))
written (parallel m l r) rest = written l (written r ((2, (m, (0, 0))) ∷ rest))

-- the two uppermost trees of a stack joined
abbrev pub joined : (AdaptorTree → AdaptorTree → AdaptorTree) → List AdaptorTree → List AdaptorTree
joined join [] = []
joined join (r ∷ []) = r ∷ []
joined join (r ∷ l ∷ stack) = join l r ∷ stack

abbrev pub grown : ℕ → ℕ → ℕ → ℕ → List AdaptorTree → List AdaptorTree
grown zero a b c stack = leaf a (kind_from b) (flip_from c) ∷ stack
grown (suc zero) a b c stack = joined (series a) stack
grown (suc (suc n)) a b c stack = joined (parallel a) stack

abbrev pub read : List Token → List AdaptorTree → List AdaptorTree
read [] stack = stack
read (t ∷ ts) stack = read ts (grown t.0 t.1.0 t.1.1.0 t.1.1.1 stack)

abbrev pub uppermost : List AdaptorTree → AdaptorTree
uppermost [] = leaf 0 Res false
uppermost (t ∷ stack) = t

abbrev pub outlet_number : Outlet → ℕ
outlet_number Source = 0
outlet_number (Load i) = suc i

abbrev pub outlet_from : ℕ → Outlet
outlet_from zero = Source
outlet_from (suc i) = Load i

pub kind_from-kind_number : (k : Kind) → kind_from (kind_number k) ≡ k
kind_from-kind_number Res = refl
kind_from-kind_number Cap = refl
kind_from-kind_number Ind = refl
kind_from-kind_number Src = refl

pub flip_from-flip_number : (f : Bool) → flip_from (flip_number f) ≡ f
flip_from-flip_number true = refl
flip_from-flip_number false = refl

pub outlet_from-outlet_number : (o : Outlet) → outlet_from (outlet_number o) ≡ o
outlet_from-outlet_number Source = refl
outlet_from-outlet_number (Load i) = refl

pub read-written : (t : AdaptorTree) (rest : List Token) (stack : List AdaptorTree) → read (written t rest) stack ≡ read rest (t ∷ stack)
read-written (leaf i k f) rest stack =
    λ j. read rest (leaf i (kind_from-kind_number k j) (flip_from-flip_number f j) ∷ stack)
read-written (series m l r) rest stack =
    read-written l (written r ((1, (m, (0, 0))) ∷ rest)) stack ∙ read-written r ((1, (m, (0, 0))) ∷ rest) (l ∷ stack)
read-written (parallel m l r) rest stack =
    read-written l (written r ((2, (m, (0, 0))) ∷ rest)) stack ∙ read-written r ((2, (m, (0, 0))) ∷ rest) (l ∷ stack)

abbrev pub tree_from : List Token → AdaptorTree
tree_from ts = uppermost (read ts [])

pub tree_from-written : (t : AdaptorTree) → tree_from (written t []) ≡ t
tree_from-written t = ap uppermost (read-written t [] [])

abbrev pub NetworkParts : Type 0
NetworkParts = ℕ × (ℕ × (List Token × (List Token × ℕ)))

abbrev pub parts_of : Network → NetworkParts
parts_of n = (n.k, (n.m, (written n.left [], (written n.right [], outlet_number n.outlet))))

abbrev pub network_from : NetworkParts → Network
network_from p = record { k = p.0; m = p.1.0; left = tree_from p.1.1.0; right = tree_from p.1.1.1.0; outlet = outlet_from p.1.1.1.1 }

pub network_from-parts_of : (n : Network) → network_from (parts_of n) ≡ n
network_from-parts_of n = λ j. record {
  k = n.k;
  m = n.m;
  left = tree_from-written n.left j;
  right = tree_from-written n.right j;
  outlet = outlet_from-outlet_number n.outlet j;
}

abbrev pub coded_token : Coded Token
coded_token = coded× coded_ℕ (coded× coded_ℕ (coded× coded_ℕ coded_ℕ))

abbrev pub network_code : Coded Network
network_code =
    code_by NetworkParts (coded× coded_ℕ (coded× coded_ℕ (coded× (coded_list coded_token) (coded× (coded_list coded_token) coded_ℕ)))) parts_of network_from network_from-parts_of
