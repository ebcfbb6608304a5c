-- What the questions answer.
use Rattle.std.specs.Prelude.{ℕ, cond, List, [], ◌∷◌, map, length, Some, None, nat_lt, slice_index, filter}
use Rattle.protocol.specs.declared.assumptions.Version.{Version}
use Rattle.protocol.specs.Assumptions.{assume}
use Rattle.protocol.specs.Model.{Model}
use Rattle.protocol.specs.Pairing.{of_object}
use Rattle.book.specs.declared.state.questions.ObjectVersion.{ObjectVersion}

-- a version by a running job
abbrev pub made_version : Version → ObjectVersion
made_version v = record { maker = Some v.maker; value = v.value; assumes = v.assumes }

-- the stored value: it has no maker, and takes nothing
abbrev pub stored_version : ℕ → ObjectVersion
stored_version value = record { maker = None; value = value; assumes = assume 0 0 }

-- the versions of an object, in order: the stored value, then those by running jobs; none where there is no such object
abbrev pub object_versions : Model → ℕ → List ObjectVersion
object_versions m o = cond (nat_lt o (length m.values)) (stored_version (slice_index m.values o) ∷ map made_version (filter (of_object o) m.versions)) []
