-- The version of the calls that C sees. Definitions only.
use Rattle.std.specs.Prelude.{ℕ}

-- 0.2.0, as 10,000 * major + 100 * minor + patch: include/godf.h's GODF_VERSION
abbrev pub VERSION : ℕ
VERSION = 200
