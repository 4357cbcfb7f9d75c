-- Two sessions that may differ in tiles and workers.
use Rattle.std.specs.Prelude.{◌≡◌}
use Rattle.opc_session.specs.Sessions.{SessionValue}

-- fragments, kernels, offsets, and the rules of sites, masks and moves are the same
pub record AreAlikeButRun (s t : SessionValue) : Type 0 where
  pub fragments : s.fragments ≡ t.fragments
  pub set : s.set ≡ t.set
  pub site : s.rules.site ≡ t.rules.site
  pub mask : s.rules.mask ≡ t.rules.mask
  pub mover : s.rules.mover ≡ t.rules.mover
  pub offsets : s.offsets ≡ t.offsets
