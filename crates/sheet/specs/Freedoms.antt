-- What `dof` answers on a sheet that no test refuses, and what then stands in each lent place. Document 01, "What a call says", "The sheet". Definitions only.
use Rattle.std.specs.Prelude.{ℕ, ◌*◌, ◌≡◌, cond, List, ◌++◌, length, drop, eqb, Float}
use Rattle.body_freedom.specs.Dof.{Freedoms, dof}
use Rattle.body_freedom.specs.Layout.{freedoms_doubles}
use Rattle.format.specs.Format.{bodies_of}
use Rattle.refusals.specs.SceneAt.{scene_at}
use Rattle.refusals.specs.Refusals.{dof_fault}

-- the answer of `dof` on an accepted sheet
abbrev pub freedoms_of : List ℕ → Freedoms
freedoms_of s = dof (scene_at s)

-- The promise: the number r, and the lent places at entry and at exit. What the scratch holds at entry has no say in it.
pub record DofAnswer (s : List ℕ) (r : ℕ) (scratch scratch' freedoms freedoms' : List Float) (free free' : ℕ) : Type 0 where
  pub number : r ≡ dof_fault s (length scratch) (length freedoms)
  -- on refusal the same; else 29 doubles a body, and a longer slice keeps its rest
  pub freedoms_are : freedoms' ≡ cond (eqb r 0) (freedoms_doubles (freedoms_of s).bodies ++ drop (29 * bodies_of s) freedoms) freedoms
  pub free_is : free' ≡ cond (eqb r 0) (freedoms_of s).total free
  -- on acceptance any doubles may stand in scratch
  pub scratch_kept : (r ≡ 0 → ⊥) → scratch' ≡ scratch
  pub scratch_size : length scratch' ≡ length scratch
