mod Answer
mod Lists
mod Told
