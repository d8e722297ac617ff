-- What always holds of what is kept.
use Rattle.std.specs.Prelude.{◌≡◌, ℕ, true, Some, None}
use Rattle.im_history.specs.declared.task.Held.{Held}
use Rattle.im_history.specs.Units.{is_on}
use Rattle.im_directory.specs.Slots.{Kept, build_in, living_in}

module _ {U : Type 0} where
  -- the build of this number is held, and nothing killed it
  pub record IsAlive (kept : Kept U) (id : ℕ) : Type 0 where
    pub held : Held
    pub is : build_in kept id ≡ Some held
    pub alive : held.killed ≡ None

  -- the build of this number is held, it is of this extent, and nothing killed it
  pub record IsLiving (kept : Kept U) (table extent id : ℕ) : Type 0 where
    pub held : Held
    pub is : build_in kept id ≡ Some held
    pub on : is_on table extent held ≡ true
    pub alive : held.killed ≡ None

  -- builds stand by their numbers, and the held builds that nothing killed are the living ones of their extents
  pub record IsSound (kept : Kept U) : Type 0 where
    pub numbered : (id : ℕ) (held : Held) → build_in kept id ≡ Some held → held.task.id ≡ id
    pub lives : (id : ℕ) (held : Held) → build_in kept id ≡ Some held → held.killed ≡ None → living_in kept held.task.table held.task.extent ≡ Some id
    pub living : (table extent id : ℕ) → living_in kept table extent ≡ Some id → IsLiving kept table extent id
