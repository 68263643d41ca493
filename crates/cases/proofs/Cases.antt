-- Document 01's thirteen proved cases hold: antt computes both sides of each. Assumes nothing.
use mathlib.Core.Path.{◌≡◌, refl}
use lib.Ieee.{add, sub, mul, div, rem, neg, eq, lt, le, ne, of_bits, to_bits, of_int, to_unsigned, to_signed}
use Rattle.float.specs.Double.{mag, round_size, round_away}
use Rattle.arctangent.specs.Arc.{atan_tail, atan_near, atan_size, atan_of, atan_ratio, in_quadrant, at_infinity, atan2_of}
use Rattle.complex.specs.Complex.{argument_of}
use Rattle.complex.specs.Angle.{in_range, cross_angle, unwound, wrap_to_pi}
use Rattle.geometry.specs.Edge.{alignment_weight}
use Rattle.mesh.specs.Mesh.{key, index_in, met, met_all, sides_after, marked, cuts, mid, refine}
use Rattle.mesh.specs.Area.{halfway}
use Rattle.mesh.specs.Points.{more_points, midpoints}
use Rattle.refinement.specs.Flag.{turn_along, variation, flagged, flagged_tri}
use Rattle.refinement.specs.Floor.{refinement_of}
use Rattle.text_answer.proofs.Listing.{listing}
use Rattle.singularities.specs.Charge.{winding, turns, charge}
use Rattle.root.specs.Root.{root_in, root_bits, root_of}
use Rattle.cases.specs.Cases.{Cases, square, angles, ones, two, seven, refined}

seven-points : (refined 256).points ≡ seven
unfolding square angles ones two seven refinement_of flagged_tri flagged variation turn_along marked cuts sides_after met_all met index_in key refine mid more_points midpoints halfway of_int add sub mul div rem le lt ne mag of_bits
seven-points = refl

pub cases : Cases
unfolding square angles ones two refinement_of flagged_tri flagged variation turn_along marked cuts sides_after met_all met index_in key refine mid add
    sub mul div rem neg lt le eq ne of_bits to_bits of_int to_unsigned to_signed mag round_size round_away atan_tail atan_near atan_size atan_of atan_ratio
    in_quadrant at_infinity atan2_of argument_of in_range cross_angle unwound wrap_to_pi winding turns charge alignment_weight root_in root_bits root_of
cases = record {
  case-1 = (listing, seven-points);
  case-2 = (refl, refl);
  case-3 = refl;
  case-4 = refl;
  case-5 = refl;
  case-6 = refl;
  case-7 = refl;
  case-8 = (refl, refl, refl);
  case-9 = refl;
  case-10 = (refl, refl);
  case-11 = refl;
  case-12 = refl;
  case-13 = refl;
}
