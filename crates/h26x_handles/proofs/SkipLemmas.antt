-- Numbers that bear nothing of the stream.
use Rattle.std.proofs.Common.{◌≡◌, Bool, true, false, None, if◌then◌else◌, refl}
use Rattle.h26x_codec.specs.AnyDepacketizer.{any_depacketizer_with_run}
use Rattle.h26x_codec.specs.declared.any_depacketizer.AnyDepacketizer.{AnyDepacketizer}

-- one that stays where a run is kept, and has none else
pub depacketizer_is : (kept : Bool) (new old : AnyDepacketizer) → (kept ≡ true → new ≡ old) →
    (kept ≡ false → new ≡ any_depacketizer_with_run None old) →
    new ≡ (if kept then old else any_depacketizer_with_run None old)
depacketizer_is true new old stays gives_up = stays refl
depacketizer_is false new old stays gives_up = gives_up refl
