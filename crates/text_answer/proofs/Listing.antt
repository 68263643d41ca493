-- Document 01's listing itself: the bytes of its refine.in print the bytes of its answer. antt computes both sides. Assumes nothing.
use mathlib.Core.Path.{◌≡◌, refl}
use lib.Ieee.{add, sub, mul, div, rem, neg, eq, lt, le, ne, of_bits, of_int}
use Rattle.float.specs.Double.{mag, not_positive}
use Rattle.mesh.specs.Mesh.{key, index_in, met, met_all, sides_after, marked, cuts, mid, refine}
use Rattle.mesh.specs.Points.{more_points, more_sizes, midpoints, mid_sizes}
use Rattle.floor.specs.Checks.{lowest, bad_point, bad_size, bad_corner, not_finite_or_below_zero, check_floor}
use Rattle.refinement.specs.Flag.{turn_along, variation, flagged, flagged_tri}
use Rattle.refinement.specs.Floor.{tris, refinement_of}
use Rattle.text_columns.specs.Columns.{lead, in_six, columns_of, line_of, is_lead, is_digit, after_blank, after_minus, step, scan}
use Rattle.text_floor.specs.Text.{is_line, is_corners, every, is_head, is_text, points_up_to, angles_up_to, corners_up_to}
use Rattle.text_answer.specs.Lines.{triangle_lines, side_lines, lines_of}
use Rattle.text_answer.specs.Listing.{given, expected}
use Rattle.text_answer.specs.Printed.{accepted, printed}

pub listing : printed given ≡ expected
unfolding given expected printed accepted is_text is_head is_line is_corners every scan step after_blank after_minus is_lead is_digit points_up_to
    angles_up_to corners_up_to check_floor lowest bad_point bad_size bad_corner not_positive not_finite_or_below_zero refinement_of tris flagged_tri flagged
    variation turn_along marked cuts sides_after met_all met index_in key refine mid more_points midpoints more_sizes mid_sizes lines_of triangle_lines
    side_lines line_of columns_of in_six lead of_int add sub mul div rem neg le lt ne eq mag of_bits
listing = refl
