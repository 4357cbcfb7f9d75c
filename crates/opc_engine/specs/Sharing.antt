-- Rule files that differ in how the sums are shared out alone: in the side of tiles and in the number of workers.
use Rattle.std.specs.Prelude.{◌≡◌, ℕ, Ok, List}
use Rattle.opc_base.specs.declared.rules.Rules.{Rules}
use Rattle.opc_engine.specs.Prepare.{RulesGive}

-- rules that are equal in all but `tile` and `workers`
pub record DiffersInSharing (a b : Rules) : Type 0 where
  pub pick : b.pick ≡ a.pick
  pub site : b.site ≡ a.site
  pub cut : b.cut ≡ a.cut
  pub mover : b.mover ≡ a.mover
  pub mask : b.mask ≡ a.mask
  pub settle : b.run.settle ≡ a.run.settle
  pub rounds : b.run.rounds ≡ a.run.rounds
  pub out : b.out ≡ a.out

-- two files of such rules
pub record AreSharedApart (a b : List ℕ) : Type 0 where
  pub one : Rules
  pub other : Rules
  pub first : RulesGive a (Ok one)
  pub second : RulesGive b (Ok other)
  pub differs : DiffersInSharing one other
