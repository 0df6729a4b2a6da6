mod Told
mod Within
