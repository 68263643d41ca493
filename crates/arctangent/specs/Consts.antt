-- fdlibm 5.3's constants of s_atan.c and e_atan2.c, each by the bit pattern that fdlibm's comments give as two words
-- (docs/FDLIBM.md lists them). Definitions only.
use Rattle.std.specs.Prelude.{Float}
use Rattle.float.specs.Double.{lit}

abbrev pub zero : Float
zero = lit 0x0000_0000_0000_0000

abbrev pub half : Float
half = lit 0x3fe0_0000_0000_0000

abbrev pub one : Float
one = lit 0x3ff0_0000_0000_0000

abbrev pub one_point_five : Float
one_point_five = lit 0x3ff8_0000_0000_0000

abbrev pub two : Float
two = lit 0x4000_0000_0000_0000

abbrev pub three : Float
three = lit 0x4008_0000_0000_0000

abbrev pub atanhi0 : Float
atanhi0 = lit 0x3fdd_ac67_0561_bb4f

abbrev pub atanhi1 : Float
atanhi1 = lit 0x3fe9_21fb_5444_2d18

abbrev pub atanhi2 : Float
atanhi2 = lit 0x3fef_730b_d281_f69b

abbrev pub atanhi3 : Float
atanhi3 = lit 0x3ff9_21fb_5444_2d18

abbrev pub atanlo0 : Float
atanlo0 = lit 0x3c7a_2b7f_222f_65e2

abbrev pub atanlo1 : Float
atanlo1 = lit 0x3c81_a626_3314_5c07

abbrev pub atanlo2 : Float
atanlo2 = lit 0x3c70_0788_7af0_cbbd

abbrev pub atanlo3 : Float
atanlo3 = lit 0x3c91_a626_3314_5c07

abbrev pub a_t0 : Float
a_t0 = lit 0x3fd5_5555_5555_550d

abbrev pub a_t1 : Float
a_t1 = lit 0xbfc9_9999_9998_ebc4

abbrev pub a_t2 : Float
a_t2 = lit 0x3fc2_4924_9200_83ff

abbrev pub a_t3 : Float
a_t3 = lit 0xbfbc_71c6_fe23_1671

abbrev pub a_t4 : Float
a_t4 = lit 0x3fb7_45cd_c54c_206e

abbrev pub a_t5 : Float
a_t5 = lit 0xbfb3_b0f2_af74_9a6d

abbrev pub a_t6 : Float
a_t6 = lit 0x3fb1_0d66_a0d0_3d51

abbrev pub a_t7 : Float
a_t7 = lit 0xbfad_de2d_52de_fd9a

abbrev pub a_t8 : Float
a_t8 = lit 0x3fa9_7b4b_2476_0deb

abbrev pub a_t9 : Float
a_t9 = lit 0xbfa2_b444_2c6a_6c2f

abbrev pub a_t10 : Float
a_t10 = lit 0x3f90_ad3a_e322_da11

abbrev pub pi-o-4 : Float
pi-o-4 = lit 0x3fe9_21fb_5444_2d18

abbrev pub pi-o-2 : Float
pi-o-2 = lit 0x3ff9_21fb_5444_2d18

abbrev pub pi : Float
pi = lit 0x4009_21fb_5444_2d18

abbrev pub pi-lo : Float
pi-lo = lit 0x3ca1_a626_3314_5c07

abbrev pub tiny : Float
tiny = lit 0x01a5_6e1f_c2f8_f359
