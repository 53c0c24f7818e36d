mod Enclosed
