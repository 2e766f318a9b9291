-- The chains as the code makes them, by the slots of the stages. Nothing that is promised rests on this file: it stands between
-- the code and the proof that they lie as Layouts says.
use Rattle.std.specs.Prelude.{◌≡◌, ℕ, ◌+◌, ◌<◌, ◌≤◌, ◌⊎◌, List, length}
use Rattle.wdf_law.specs.Network.{Network, elements}
use Rattle.wdf_loop.specs.declared.chain.Chain.{Chain}
use Rattle.wdf_loop.specs.declared.mark.Mark.{Mark}
use Rattle.wdf_loop.specs.Layouts.{mark_at, chain_at}
use Rattle.wdf_loop.specs.Leaves.{sign_in}

-- the end of a chain: the next stage that has an element below, or the root
pub record IsEnd (count : ℕ) (marks : List Mark) (first end : ℕ) : Type 0 where
  pub within : end < length marks
  pub least : first ≤ end
  pub inner : (j : ℕ) → first < j → j < end → count ≤ (mark_at marks j).below
  pub stop : ((first < end) × ((mark_at marks end).below < count))
      ⊎ ((end + 1 ≡ length marks) × (first < end → count ≤ (mark_at marks end).below))

-- the stage beside which the tree with the up slot out hangs, if there is one
pub record IsHook (marks : List Mark) (out to : ℕ) : Type 0 where
  pub within : to < length marks
  pub beside : ((mark_at marks to).up ≡ out) ⊎ ((j : ℕ) → j < length marks → (mark_at marks j).up ≡ out → ⊥)

-- the chain that begins at a stage
pub record IsChainFrom (n : Network) (marks : List Mark) (c : Chain) : Type 0 where
  pub end : IsEnd (length (elements n)) marks c.first c.end
  pub to : (i : ℕ) → i + 1 ≡ c.end → IsHook marks (mark_at marks i).out c.to
  pub sign : c.sign ≡ sign_in n (mark_at marks c.first).below

-- the chains that begin before the stage s
pub record AreChainsBefore (n : Network) (marks : List Mark) (s : ℕ) (chains : List Chain) : Type 0 where
  pub each : (i : ℕ) → i < length chains → IsChainFrom n marks (chain_at chains i)
  pub begins : (i : ℕ) → i < length chains → ((chain_at chains i).first < s) × ((mark_at marks (chain_at chains i).first).below < length (elements n))
  pub from : 0 < s → (0 < length chains) × ((chain_at chains 0).first ≡ 0)
  pub next : (i : ℕ) → i + 1 < length chains → ((chain_at chains (i + 1)).first ≡ (chain_at chains i).end) × ((chain_at chains i).first < (chain_at chains i).end)
  pub behind : (i : ℕ) → i + 1 ≡ length chains → (j : ℕ) → (chain_at chains i).first < j → j < s → length (elements n) ≤ (mark_at marks j).below
